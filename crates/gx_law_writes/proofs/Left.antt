-- Writes, answers of INSERTs and what is left make a history legal.
use Rattle.std.proofs.Common.{◌≤◌, List, [], ◌∷◌, ◌++◌, Bool}
use Rattle.gx_ids.specs.declared.ids.SessionId.{SessionId}
use Rattle.gx_script.specs.declared.Script.{Script}
use Rattle.gx_store.specs.declared.answer.StmtAnswer.{StmtAnswer}
use Rattle.gx_store.specs.declared.answer.StmtAnswer.TheVariants as told
use Rattle.gx_store.specs.declared.event.Event.{Event}
use Rattle.gx_store.specs.declared.mark.Mark.{Mark}
use Rattle.gx_store.specs.declared.mark.Mark.TheVariants as mark
use Rattle.gx_store.specs.declared.run.Step.{Step}
use Rattle.gx_store.specs.Legal.{AreLegalSteps}
use Rattle.gx_store.specs.Points.{Point}
use Rattle.gx_rules.specs.Machine.{world_of}
use Rattle.gx_store.specs.Language.{AreLinesNumbered}
use Rattle.gx_law_order.specs.Rest.{AreRestLegal, EachMark, Rest, RestAnswer}
use Rattle.gx_law_order.proofs.Legality.{legal-with-rest}
use Rattle.gx_law_writes.specs.Inserts.{AreInsertsTold, InsertTold, IsInsertTold}
use Rattle.gx_law_writes.specs.Left.{AreLeftLegal, Left, LeftAnswer}
use Rattle.gx_law_writes.specs.Writes.{AreWritesLegal, WriteLegal}
use Rattle.gx_law_writes.proofs.Counted.{inserts-told}
use Rattle.gx_law_writes.proofs.World.{world-holds}

answer-one : (script : Script) (point : Point) (s : SessionId) (a : StmtAnswer) → IsInsertTold script point s a → LeftAnswer script point s a → RestAnswer script point s a
answer-one script point s (told.Inserted n) i l = λ line level g c runs gathered. i line level g c runs
answer-one script point s told.Begin i l = l
answer-one script point s told.Commit i l = l
answer-one script point s told.Rollback i l = l
answer-one script point s told.Locked i l = l
answer-one script point s (told.Updated n) i l = l
answer-one script point s (told.Deleted n) i l = l
answer-one script point s (told.Rows rows) i l = l
answer-one script point s (told.Refused reason) i l = l

all-one : (script : Script) (point : Point) (m : Mark) → WriteLegal script point m → InsertTold script point m → Left script point m → Rest script point m
all-one script point (mark.Write g c n t r x) w i l = w
all-one script point (mark.Skip g c r) w i l = w
all-one script point (mark.Fault g c r x) w i l = l
all-one script point (mark.Answer s n a) w i l = answer-one script point s a i l
all-one script point (mark.Recheck x y z) w i l = l
all-one script point m w i l = tt

all-marks : (script : Script) (steps : List Step) (e : Event) (earlier ms later : List Mark) → EachMark (WriteLegal script) steps e earlier ms later → EachMark (InsertTold script) steps e earlier ms later → EachMark (Left script) steps e earlier ms later → EachMark (Rest script) steps e earlier ms later
all-marks script steps e earlier [] later w i l = tt
all-marks script steps e earlier (m ∷ ms) later w i l = (all-one script (record { steps = steps; event = e; earlier = earlier; later = ms ++ later }) m w.0 i.0 l.0, all-marks script steps e (earlier ++ m ∷ []) ms later w.1 i.1 l.1)

all-steps : (script : Script) (before ss : List Step) → AreWritesLegal script before ss → AreInsertsTold script before ss → AreLeftLegal script before ss → AreRestLegal script before ss
all-steps script before [] w i l = tt
all-steps script before (s ∷ ss) w i l = (all-marks script before s.event [] s.marks [] w.0 i.0 l.0, all-steps script (before ++ s ∷ []) ss w.1 i.1 l.1)

pub legal-with-left : (script : Script) → 1 ≤ script.segments → AreLinesNumbered [] script.lines → (es : List (Event × Bool)) → AreLeftLegal script [] (world_of script es).steps → AreLegalSteps script [] (world_of script es).steps
legal-with-left script some numbered es left = legal-with-rest script some es (all-steps script [] (world_of script es).steps (world-holds script some numbered es).legal (inserts-told script some numbered es) left)
