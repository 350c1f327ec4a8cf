-- The rounds of every run are the definition's, part by part.
use Rattle.std.proofs.Common.{◌≤◌, List, [], ◌∷◌, ◌++◌, Bool, subst}
use Rattle.gx_script.specs.declared.Script.{Script}
use Rattle.gx_store.specs.declared.event.Event.{Event}
use Rattle.gx_store.specs.declared.run.Run.{Run}
use Rattle.gx_store.specs.declared.run.Step.{Step}
use Rattle.gx_store.specs.Rounds.{AreRounds, Ends}
use Rattle.gx_rules.specs.Machine.{world_of}
use Rattle.gx_rules.specs.System.{IsSystemRun}
use Rattle.gx_law_order.proofs.Machines.{system-led}
use Rattle.gx_law_locks.specs.Steps.{EachStep, SendsNoted, StepAsks, StepRechecks, StepReports}
use Rattle.gx_law_locks.proofs.Asking.{world-asks, world-ends}
use Rattle.gx_law_locks.proofs.Rechecks.{world-rechecks}
use Rattle.gx_law_locks.proofs.Reporting.{world-sends-noted}
use Rattle.gx_law_locks.proofs.Reports.{world-reports}

each-rounds : (script : Script) (before ss : List Step) → EachStep (StepAsks script) before ss → EachStep StepReports before ss → EachStep SendsNoted before ss → EachStep (StepRechecks script) before ss → EachStep (Ends script) before ss
    → AreRounds script before ss
each-rounds script before [] asks reports notes rechecks ends = tt
each-rounds script before (s ∷ ss) asks reports notes rechecks ends =
    (asks.0, reports.0, notes.0, rechecks.0, ends.0, each-rounds script (before ++ s ∷ []) ss asks.1 reports.1 notes.1 rechecks.1 ends.1)

module _ (script : Script) (some : 1 ≤ script.segments) where
  pub world-rounds : (es : List (Event × Bool)) → AreRounds script [] (world_of script es).steps
  world-rounds es =
      each-rounds script [] (world_of script es).steps (world-asks script some es) (world-reports script some es) (world-sends-noted script some es) (world-rechecks script some es) (world-ends script some es)

  pub system-rounds : (run : Run) → IsSystemRun script run → AreRounds script [] run.steps
  system-rounds run system = let m = system-led script run system in subst (AreRounds script []) m.is (world-rounds m.events)
