-- In a run that was let there are no more lone rounds that came to their recheck than transactions.
use Rattle.std.proofs.Common.{◌≤◌, ◌<◌, Bool, List, [], All, length}
use Rattle.gx_script.specs.declared.Script.{Script}
use Rattle.gx_store.specs.Groups.{lets}
use Rattle.gx_store.specs.Language.{AreLinesNumbered, IsScript}
use Rattle.gx_store.specs.Legal.{AreLegalSteps}
use Rattle.gx_store.specs.Points.{marks_in}
use Rattle.gx_store.specs.Whole.{AreInsertsWhole}
use Rattle.gx_store.specs.declared.event.Event.{Event}
use Rattle.gx_store.specs.declared.run.Step.{Step}
use Rattle.gx_law_answers.proofs.Join.{legal}
use Rattle.gx_law_answers.proofs.Snaps.{snapshots-one}
use Rattle.gx_law_answers.proofs.Whole.{filled, keyed}
use Rattle.gx_law_locks.proofs.EachVictim.{world-cancels}
use Rattle.gx_law_locks.proofs.Whole.{world-rounds}
use Rattle.gx_law_lone.proofs.Askers.{grouped-victims, legal-steps}
use Rattle.gx_law_lone.proofs.FindsVictims.{find-victims}
use Rattle.gx_law_lone.specs.Victims.{AreLet, DoLoneRoundsFindVictims, HoldsUpOpenings}
use Rattle.gx_law_runs.proofs.Reaching.{by-events}
use Rattle.gx_law_runs.specs.Reached.{IsReached}
use Rattle.gx_law_progress.specs.LoneRounds.{AreLoneRoundsFew}
use Rattle.gx_law_progress.proofs.Begun.{begun-few}
use Rattle.gx_law_progress.proofs.Few.{cancelled-begun, lone-few}

pub rounds-few : (script : Script) (lets : List Step → Event → Bool) (steps : List Step) → AreLinesNumbered [] script.lines → AreLegalSteps script [] steps → DoLoneRoundsFindVictims script lets [] steps → AreLoneRoundsFew script lets steps
rounds-few script lets steps numbered history finds =
    record { cancelling = lone-few script lets steps history finds; begun = cancelled-begun (marks_in steps); lines = begun-few script numbered steps history }

module _ (script : Script) (some : 1 ≤ script.segments) (numbered : AreLinesNumbered [] script.lines) (inserts : AreInsertsWhole script.tables script.lines) where
  history-of : (steps : List Step) → IsReached script steps → AreLegalSteps script [] steps
  history-of steps is = by-events script steps is (AreLegalSteps script []) (legal script some numbered (keyed script inserts) (snapshots-one script some) (filled script inserts) (world-cancels script some (world-rounds script some)))

  pub let-few : All (λ line. line.session.0 < length script.sessions) script.lines → (lets : List Step → Event → Bool) → HoldsUpOpenings script lets → (steps : List Step) → IsReached script steps → AreLet script lets [] steps
      → AreLoneRoundsFew script lets steps
  let-few sessions lets holds steps is a = rounds-few script lets steps numbered (history-of steps is) (find-victims script some numbered sessions inserts lets holds steps is a)

pub grouped-few : (script : Script) → IsScript script → AreInsertsWhole script.tables script.lines → (steps : List Step) → IsReached script steps → AreLet script (lets script) [] steps → AreLoneRoundsFew script (lets script) steps
grouped-few script language inserts steps is a =
    rounds-few script (lets script) steps language.numbers (legal-steps script language inserts steps is) (grouped-victims script language inserts steps is a)
