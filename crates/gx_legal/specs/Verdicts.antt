-- The refusals of those whom a round cancels.
use Rattle.std.specs.Prelude.{◌≡◌, ℕ, ◌⊎◌, List, [], ◌∷◌}
use Rattle.gx_ids.specs.declared.ids.SessionId.{SessionId}
use Rattle.gx_store.specs.declared.answer.Refused.TheVariants.{Victim}
use Rattle.gx_store.specs.declared.answer.StmtAnswer.TheVariants.{Refused}
use Rattle.gx_store.specs.declared.mark.Mark.{Mark}
use Rattle.gx_store.specs.declared.mark.Mark.TheVariants.{Answer}

-- the mark refuses a line of the session for the round
abbrev pub IsRefusalOf : SessionId → ℕ → Mark → Type 0
IsRefusalOf session round mark = (number : ℕ) × (mark ≡ Answer session number (Refused (Victim round)))

-- one of the marks does
abbrev pub HasRefusal : SessionId → ℕ → List Mark → Type 0
HasRefusal session round [] = ⊥
HasRefusal session round (m ∷ ms) = IsRefusalOf session round m ⊎ HasRefusal session round ms
