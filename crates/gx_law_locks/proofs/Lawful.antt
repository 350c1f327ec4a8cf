-- Over every run of the machine, who is blocked stays blocked.
use Rattle.std.proofs.Common.{◌≤◌, List, [], ◌++◌, Bool, subst}
use Rattle.gx_script.specs.declared.Script.{Script}
use Rattle.gx_store.specs.declared.event.Event.{Event}
use Rattle.gx_store.specs.declared.mark.Mark.{Mark}
use Rattle.gx_store.specs.Points.{marks_in}
use Rattle.gx_store.specs.Rounds.{IsBlocked}
use Rattle.gx_law_order.specs.Moves.{Move, world_by}
use Rattle.gx_law_order.specs.Runs.{steps_after}
use Rattle.gx_law_locks.specs.Waiting.{EachBehind, GetsWhatItWaitsFor, KeepsWhileWaiting, WaitsForEnd}
use Rattle.gx_law_locks.proofs.Lets.{LetsWait, behind-front, behind-rest, behind-weaker, lets-end, lets-get, lets-keep}
use Rattle.gx_law_locks.specs.Blocked.{DoStayBlocked}
use Rattle.gx_law_locks.proofs.Committing.{Free, moves-free, world-free}
use Rattle.gx_law_locks.proofs.Fair.{IsFair, each-fair}
use Rattle.gx_law_locks.proofs.Sharing.{AreShared, shared-first}
use Rattle.gx_law_locks.proofs.Staying.{none-committed, stays-blocked}
use Rattle.gx_rules.specs.Machine.{World, world_of}

-- marks of which the laws hold keep what is blocked
pub fair-stays : (marks : List Mark) → EachBehind IsFair [] marks → DoStayBlocked marks
fair-stays marks fair before between later edges split blocked none = (still, none-committed (before ++ between) edges still)
  where
    front : EachBehind IsFair [] (before ++ between)
    front = behind-front IsFair [] (before ++ between) later (subst (EachBehind IsFair []) split fair)

    shared : AreShared before
    shared = shared-first before (behind-front IsFair [] before between front)

    still : IsBlocked (before ++ between) edges
    still = stays-blocked before between edges (behind-rest IsFair [] before between front) shared blocked none

-- so are those of every world of the machine, and of every world that single moves lead to
free-fair : (script : Script) (w : World) → Free script w → EachBehind IsFair [] (marks_in w.steps)
free-fair script w free =
    let marks : List Mark = marks_in w.steps in
    each-fair marks free.locked.granted free.locked.late (behind-weaker LetsWait KeepsWhileWaiting lets-keep [] marks free.locked.lets)
    (behind-weaker LetsWait GetsWhatItWaitsFor lets-get [] marks free.locked.lets) free.commits (behind-weaker LetsWait WaitsForEnd lets-end [] marks free.locked.lets)

module _ (script : Script) (some : 1 ≤ script.segments) where
  pub moves-fair : (ms : List Move) → EachBehind IsFair [] (marks_in (world_by script ms).steps)
  moves-fair ms = free-fair script (world_by script ms) (moves-free script some ms)

  pub run-fair : (events : List (Event × Bool)) → EachBehind IsFair [] (marks_in (steps_after script events))
  run-fair events = free-fair script (world_of script events) (world-free script some events)

  pub run-stays-blocked : (events : List (Event × Bool)) → DoStayBlocked (marks_in (steps_after script events))
  run-stays-blocked events = fair-stays (marks_in (steps_after script events)) (run-fair events)
