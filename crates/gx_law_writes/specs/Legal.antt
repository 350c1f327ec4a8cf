-- Which locks a run has (PostgreSQL manual 13.3).
use Rattle.std.specs.Prelude.{◌≡◌, List, [], ◌++◌}
use Rattle.gx_script.specs.declared.Script.{Script}
use Rattle.gx_store.specs.declared.mark.Mark.{Mark}
use Rattle.gx_store.specs.declared.run.Step.{Step}
use Rattle.gx_store.specs.Asking.{AreAsked}
use Rattle.gx_store.specs.Locks.{AreExclusive, AreLockedSteps}
use Rattle.gx_store.specs.Outgoing.{AreSentWhole}
use Rattle.gx_store.specs.Points.{marks_in}
use Rattle.gx_store.specs.Silent.{AreWaitersSilent}
use Rattle.gx_law_writes.specs.Commands.{AreReadsHeld}
use Rattle.gx_law_locks.specs.Lasting.{DoHoldsLast}
use Rattle.gx_law_locks.specs.Marked.{AreWaitsLegal}
use Rattle.gx_law_locks.specs.Committing.{CommitsUnlessWaiting}
use Rattle.gx_law_locks.specs.Queue.{PassesNobody}
use Rattle.gx_law_locks.specs.Waiting.{EachBehind, GetsWhatItWaitsFor, KeepsWhileWaiting}

-- The run's locks are legal by the definition, and each wait, each grant and each write is for a command at work. Besides, a command that
-- reads holds its table behind each step's last mark too; who begins to wait at a node has no other wait there; at no point do two
-- transactions hold conflicting modes on one object at one node; and until its Commit or Abort mark a transaction holds whatever it was
-- granted, but for what a segment gives back at any time: a lock on a row, and one on another transaction's end. Until it aborts, who
-- waits isn't on its way to a commit, and gives back nothing where it waits; and who waits at a node is granted just what it waits for, and
-- says neither DONE nor FAILED there. Nobody is granted a lock past an earlier wait that conflicts with it, unless that conflicts with
-- something on the object that it holds already. No INSERT goes out, to ask for locks at a segment, of which a constant faults.
pub record AreLocksLegal (script : Script) (steps : List Step) : Type 0 where
  pub locked : AreLockedSteps script [] steps
  pub asked : AreAsked script [] steps
  pub reading : AreReadsHeld script [] steps
  pub waits : AreWaitsLegal [] (marks_in steps)
  pub exclusive : (before later : List Mark) → marks_in steps ≡ before ++ later → AreExclusive before
  pub lasting : (before later : List Mark) → marks_in steps ≡ before ++ later → DoHoldsLast before
  pub committing : EachBehind CommitsUnlessWaiting [] (marks_in steps)
  pub keeping : EachBehind KeepsWhileWaiting [] (marks_in steps)
  pub getting : EachBehind GetsWhatItWaitsFor [] (marks_in steps)
  pub queued : EachBehind PassesNobody [] (marks_in steps)
  pub silent : AreWaitersSilent [] steps
  pub whole : AreSentWhole script [] steps
