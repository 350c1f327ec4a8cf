-- Writes and skips that are legal, each at its point.
use Rattle.std.specs.Prelude.{List, [], ◌∷◌, ◌++◌}
use Rattle.gx_script.specs.declared.Script.{Script}
use Rattle.gx_store.specs.declared.mark.Mark.{Mark}
use Rattle.gx_store.specs.declared.mark.Mark.TheVariants as mark
use Rattle.gx_store.specs.declared.run.Step.{Step}
use Rattle.gx_store.specs.Points.{Point}
use Rattle.gx_store.specs.Writes.{LegalSkip, LegalWrite}
use Rattle.gx_law_order.specs.Rest.{EachMark}

abbrev pub WriteLegal : Script → Point → Mark → Type 0
WriteLegal script point (mark.Write g c node table rid image) = LegalWrite script point g c node table rid image
WriteLegal script point (mark.Skip g c rid) = LegalSkip script point g c rid
WriteLegal script point _ = Unit {0}

-- those of these steps are legal behind the steps before
abbrev pub AreWritesLegal : Script → List Step → List Step → Type 0
AreWritesLegal script before [] = Unit {0}
AreWritesLegal script before (s ∷ ss) = EachMark (WriteLegal script) before s.event [] s.marks [] × AreWritesLegal script (before ++ s ∷ []) ss
