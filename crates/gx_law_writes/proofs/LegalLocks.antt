-- Over every run of the machine, locks are legal.
use Rattle.std.proofs.Common.{◌≤◌, List, [], Bool}
use Rattle.gx_script.specs.declared.Script.{Script}
use Rattle.gx_store.specs.declared.event.Event.{Event}
use Rattle.gx_store.specs.Language.{AreLinesNumbered}
use Rattle.gx_store.specs.Points.{marks_in}
use Rattle.gx_rules.specs.Machine.{World, world_of}
use Rattle.gx_law_writes.specs.Legal.{AreLocksLegal}
use Rattle.gx_law_writes.proofs.World.{world-holds}
use Rattle.gx_law_locks.specs.Waiting.{GetsWhatItWaitsFor, KeepsWhileWaiting}
use Rattle.gx_law_locks.proofs.Committing.{world-free}
use Rattle.gx_law_locks.proofs.Lets.{LetsWait, behind-weaker, lets-get, lets-keep}
use Rattle.gx_law_locks.proofs.Orders.{world-orders}
use Rattle.gx_law_locks.proofs.Passing.{passing}
use Rattle.gx_law_locks.proofs.HoldsInRuns.{world-exclusive, world-lasting, world-locked}
use Rattle.gx_law_writes.proofs.Joined.{at-marks, locked-steps}
use Rattle.gx_law_writes.proofs.Reading.{reads-held}
use Rattle.gx_law_writes.proofs.Outgoing.{world-whole}
use Rattle.gx_law_writes.proofs.Silent.{world-silent}
use Rattle.gx_law_writes.proofs.AnswersHold.{answers-held}
use Rattle.gx_law_writes.proofs.AskedRuns.{world-asked}
use Rattle.gx_law_writes.proofs.Writes.{under-steps}

pub locks-legal : (script : Script) (some : 1 ≤ script.segments) → AreLinesNumbered [] script.lines → (es : List (Event × Bool)) → AreLocksLegal script (world_of script es).steps
locks-legal script some numbered es =
    let w : World = world_of script es in
    let l = world-locked script some es in
    let writes = under-steps script [] w.steps (world-holds script some numbered es).legal (world-orders script some es).writes in
    let marks = at-marks script [] (marks_in w.steps) l.granted l.waits l.late writes in
    let reading = reads-held script some es in
    record {
      locked = locked-steps script [] w.steps marks (answers-held script some es) reading l.own;
      asked = world-asked script some numbered es;
      reading = reading;
      waits = l.waits;
      exclusive = world-exclusive script some es;
      lasting = world-lasting script some es;
      committing = (world-free script some es).commits;
      keeping = behind-weaker LetsWait KeepsWhileWaiting lets-keep [] (marks_in w.steps) l.lets;
      getting = behind-weaker LetsWait GetsWhatItWaitsFor lets-get [] (marks_in w.steps) l.lets;
      queued = passing (marks_in w.steps) l.granted;
      silent = world-silent script some es;
      whole = world-whole script some numbered es;
    }
