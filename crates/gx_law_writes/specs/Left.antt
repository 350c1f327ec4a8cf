-- What is left of a history besides the writes and the answers of INSERTs: what SELECTs show, on what commands fault, what segments
-- refuse, and the answers of commands that change rows or lock a table.
use Rattle.std.specs.Prelude.{List, [], ◌∷◌, ◌++◌}
use Rattle.gx_ids.specs.declared.ids.SessionId.{SessionId}
use Rattle.gx_script.specs.declared.Script.{Script}
use Rattle.gx_store.specs.declared.answer.StmtAnswer.{StmtAnswer}
use Rattle.gx_store.specs.declared.answer.StmtAnswer.TheVariants as told
use Rattle.gx_store.specs.declared.mark.Mark.{Mark}
use Rattle.gx_store.specs.declared.mark.Mark.TheVariants as mark
use Rattle.gx_store.specs.declared.run.Step.{Step}
use Rattle.gx_store.specs.Faults.{LegalFault}
use Rattle.gx_store.specs.Legal.{LegalVerdict}
use Rattle.gx_store.specs.Points.{Point}
use Rattle.gx_law_order.specs.Rest.{EachMark, RestAnswer, UnlessStart}

abbrev pub LeftAnswer : Script → Point → SessionId → StmtAnswer → Type 0
LeftAnswer script point session (told.Inserted n) = Unit {0}
LeftAnswer script point session answer = RestAnswer script point session answer

abbrev pub Left : Script → Point → Mark → Type 0
Left script point (mark.Fault g c rid image) = UnlessStart point.event (LegalFault script point g c rid image)
Left script point (mark.Answer session number answer) = LeftAnswer script point session answer
Left script point (mark.Recheck round own verdict) = LegalVerdict point round verdict
Left script point _ = Unit {0}

-- it holds of each mark of these steps behind those before
abbrev pub AreLeftLegal : Script → List Step → List Step → Type 0
AreLeftLegal script before [] = Unit {0}
AreLeftLegal script before (s ∷ ss) = EachMark (Left script) before s.event [] s.marks [] × AreLeftLegal script (before ++ s ∷ []) ss
