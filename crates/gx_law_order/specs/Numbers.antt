-- Transactions are numbered from 1, in the order of their Start marks.
use Rattle.std.specs.Prelude.{◌≡◌, ◌+◌, List, [], ◌∷◌, ◌++◌}
use Rattle.gx_store.specs.declared.mark.Mark.{Mark}
use Rattle.gx_store.specs.declared.mark.Mark.TheVariants.{Start}
use Rattle.gx_store.specs.Marks.{start_count}

-- each of these marks that starts a transaction gives it the next number, behind the marks before
abbrev pub AreStartsNumbered : List Mark → List Mark → Type 0
AreStartsNumbered before [] = Unit {0}
AreStartsNumbered before (Start g session ∷ ms) = (g.0 ≡ start_count before + 1) × AreStartsNumbered (before ++ Start g session ∷ []) ms
AreStartsNumbered before (m ∷ ms) = AreStartsNumbered (before ++ m ∷ []) ms
