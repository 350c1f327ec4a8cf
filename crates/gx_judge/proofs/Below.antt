-- The journals of so many nodes.
use Rattle.std.proofs.Common.{◌≡◌, ◌∙◌, ◌++◌, ◌+◌, ◌∷◌, ℕ, suc, List, [], ap, arith, refl, sym}
use Rattle.std.specs.declared.option.Option.{Option}
use Rattle.gx_outside.specs.Memory.{JournalState}
use Rattle.gx_judge.specs.Refusing.{journal_at, journals_below}
use Rattle.gx_judge.specs.declared.asked.Append.{Append}

pub none-below : (refused : Option Append) → journals_below refused 0 ≡ []
unfolding journals_below
none-below refused = refl

next-below : (refused : Option Append) (node : ℕ) → journals_below refused (node + 1) ≡ journals_below refused node ++ journal_at refused node ∷ []
unfolding journals_below
next-below refused node = let one : node + 1 ≡ suc node = omega arith in ap (journals_below refused) one

-- with a further node's journal behind
pub more-below : (refused : Option Append) (node : ℕ) (before after : List JournalState) (j : JournalState) → before ≡ journals_below refused node → j ≡ journal_at refused node → after ≡ before ++ j ∷ [] → after ≡ journals_below refused (node + 1)
more-below refused node before after j is at more =
    more ∙ ap (λ (js : List JournalState). js ++ j ∷ []) is ∙ ap (λ (k : JournalState). journals_below refused node ++ k ∷ []) at ∙ sym (next-below refused node)
