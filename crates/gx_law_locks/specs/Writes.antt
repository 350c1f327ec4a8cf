-- Rows are written with their table's lock.
use Rattle.std.specs.Prelude.{◌≡◌, false, List, [], ◌∷◌, ◌++◌}
use Rattle.gx_script.specs.declared.Script.{Script}
use Rattle.gx_store.specs.declared.mark.Mark.{Mark}
use Rattle.gx_store.specs.declared.mark.Mark.TheVariants.{Write}
use Rattle.gx_store.specs.Locks.{WritesUnderLock}
use Rattle.gx_store.specs.Marks.{is_aborted, is_ended}

-- whoever writes among these marks, behind those before, holds the table at the coordinator and at the row's node, unless it has
-- ended
abbrev pub AreWritesLocked : Script → List Mark → List Mark → Type 0
AreWritesLocked script before [] = Unit {0}
AreWritesLocked script before (Write g c node table rid image ∷ ms) =
    (is_ended before g ≡ false → WritesUnderLock script before node g table) × AreWritesLocked script (before ++ Write g c node table rid image ∷ []) ms
AreWritesLocked script before (m ∷ ms) = AreWritesLocked script (before ++ m ∷ []) ms

-- whoever writes among these marks, behind those before, holds the table at the coordinator and at the row's node, unless it has
-- aborted
abbrev pub AreWritesUnderLock : Script → List Mark → List Mark → Type 0
AreWritesUnderLock script before [] = Unit {0}
AreWritesUnderLock script before (Write g c node table rid image ∷ ms) =
    (is_aborted before g ≡ false → WritesUnderLock script before node g table) × AreWritesUnderLock script (before ++ Write g c node table rid image ∷ []) ms
AreWritesUnderLock script before (m ∷ ms) = AreWritesUnderLock script (before ++ m ∷ []) ms
