-- Locks are given back only by who has ended, but for those that a segment gives back at any time.
use Rattle.std.specs.Prelude.{◌≡◌, ◌⊎◌, true, List, [], ◌∷◌, ◌++◌}
use Rattle.gx_store.specs.declared.mark.Mark.{Mark}
use Rattle.gx_store.specs.declared.mark.Mark.TheVariants.{Release}
use Rattle.gx_store.specs.Locks.{IsMomentary}
use Rattle.gx_store.specs.Marks.{is_ended}

-- whoever releases among these marks has its Commit or Abort mark before, unless it gives back, at a segment, a row's lock or one
-- on another transaction's end
abbrev pub AreReleasesLate : List Mark → List Mark → Type 0
AreReleasesLate before [] = Unit {0}
AreReleasesLate before (Release n g object mode ∷ ms) = (IsMomentary n object mode ⊎ (is_ended before g ≡ true)) × AreReleasesLate (before ++ Release n g object mode ∷ []) ms
AreReleasesLate before (m ∷ ms) = AreReleasesLate (before ++ m ∷ []) ms
