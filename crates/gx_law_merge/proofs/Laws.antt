-- What the laws of every run say of a merge.
use Rattle.std.proofs.Common.{◌≤◌, List, []}
use Rattle.gx_law_answers.proofs.Join.{legal}
use Rattle.gx_law_answers.proofs.Snaps.{snapshots-one}
use Rattle.gx_law_answers.proofs.Whole.{filled, keyed}
use Rattle.gx_law_locks.proofs.EachVictim.{world-cancels, world-legal}
use Rattle.gx_law_locks.proofs.Lawful.{run-stays-blocked}
use Rattle.gx_law_locks.proofs.Whole.{world-rounds}
use Rattle.gx_law_locks.specs.Blocked.{DoStayBlocked}
use Rattle.gx_law_locks.specs.Legal.{AreRoundsLegal}
use Rattle.gx_law_merge.proofs.Merging.{merge-reached}
use Rattle.gx_law_merge.specs.Merge.{DoFit, IsMergeOf}
use Rattle.gx_law_order.proofs.Follows.{world_follows}
use Rattle.gx_law_order.proofs.Ordered.{world_well}
use Rattle.gx_law_order.proofs.Whole.{world-follows}
use Rattle.gx_law_runs.proofs.Reaching.{by-events}
use Rattle.gx_law_runs.specs.Reached.{IsReached}
use Rattle.gx_law_writes.proofs.LegalLocks.{locks-legal}
use Rattle.gx_law_writes.specs.Legal.{AreLocksLegal}
use Rattle.gx_rules.specs.System.{IsSystemRun}
use Rattle.gx_script.specs.declared.Script.{Script}
use Rattle.gx_store.specs.Language.{AreLinesNumbered}
use Rattle.gx_store.specs.Ordered.{AreOrdered}
use Rattle.gx_store.specs.Points.{marks_in}
use Rattle.gx_store.specs.Protocol.{DoStepsFollow}
use Rattle.gx_store.specs.Runs.{IsLegalHistory}
use Rattle.gx_store.specs.Whole.{AreInsertsWhole}
use Rattle.gx_store.specs.declared.run.Step.{Step}

module _ (script : Script) (some : 1 ≤ script.segments) (histories : List (List Step)) (fit : DoFit script histories) (steps : List Step) (merge : IsMergeOf histories steps) where
  abbrev reached : IsReached script steps
  reached = merge-reached script some histories fit steps merge

  pub merge-system : IsSystemRun script (record { steps = steps })
  merge-system = by-events script steps reached (λ ss. IsSystemRun script (record { steps = ss })) (world_follows script some)

  pub merge-ordered : AreOrdered script [] steps
  merge-ordered = by-events script steps reached (AreOrdered script []) (λ es. (world_well script some es).steps)

  pub merge-follows : DoStepsFollow script [] steps
  merge-follows = by-events script steps reached (DoStepsFollow script []) (world-follows script some)

  pub merge-locks : AreLinesNumbered [] script.lines → AreLocksLegal script steps
  merge-locks numbered = by-events script steps reached (AreLocksLegal script) (locks-legal script some numbered)

  pub merge-rounds : AreRoundsLegal script steps
  merge-rounds = by-events script steps reached (AreRoundsLegal script) (world-legal script some (world-rounds script some))

  pub merge-blocked : DoStayBlocked (marks_in steps)
  merge-blocked = by-events script steps reached (λ ss. DoStayBlocked (marks_in ss)) (run-stays-blocked script some)

  pub merge-legal : AreLinesNumbered [] script.lines → AreInsertsWhole script.tables script.lines → IsLegalHistory script (record { steps = steps })
  merge-legal numbered inserts =
      by-events script steps reached (λ ss. IsLegalHistory script (record { steps = ss }))
      (legal script some numbered (keyed script inserts) (snapshots-one script some) (filled script inserts) (world-cancels script some (world-rounds script some)))
