-- No transaction is seen that has not ended: each snapshot sees who has committed by then, and besides these only who has
-- aborted by then.
use Rattle.std.specs.Prelude.{◌≡◌, ◌≤◌, true, List, [], ◌∷◌, ◌++◌}
use Rattle.gx_ids.specs.declared.ids.Gxid.{Gxid}
use Rattle.gx_dsnap.specs.Snapshot.{sees}
use Rattle.gx_dsnap.specs.declared.snapshot.Snapshot.{Snapshot}
use Rattle.gx_store.specs.declared.mark.Mark.{Mark}
use Rattle.gx_store.specs.declared.mark.Mark.TheVariants.{Snap}
use Rattle.gx_store.specs.Marks.{is_committed, is_ended}

pub record SeesEnded (before : List Mark) (snapshot : Snapshot) : Type 0 where
  pub committed : (h : Gxid) → is_committed before h ≡ true → sees snapshot h ≡ true
  pub ended : (h : Gxid) → 1 ≤ h.0 → sees snapshot h ≡ true → is_ended before h ≡ true

-- of each snapshot among the marks, behind those before
abbrev pub AreEndedSeen : List Mark → List Mark → Type 0
AreEndedSeen before [] = Unit {0}
AreEndedSeen before (Snap g c snapshot ∷ ms) = SeesEnded before snapshot × AreEndedSeen (before ++ Snap g c snapshot ∷ []) ms
AreEndedSeen before (m ∷ ms) = AreEndedSeen (before ++ m ∷ []) ms
