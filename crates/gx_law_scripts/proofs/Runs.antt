-- Runs of scripts that were read.
use Rattle.std.proofs.Common.{◌≤◌, Bool, ℕ, List, Ok}
use Rattle.gx_script.specs.declared.Script.{Script}
use Rattle.gx_store.specs.declared.event.Event.{Event}
use Rattle.gx_store.specs.declared.run.Run.{Run}
use Rattle.gx_store.specs.Runs.{IsLegalHistory}
use Rattle.gx_rules.specs.Machine.{run_of, world_of}
use Rattle.gx_rules.specs.System.{IsSystemRun}
use Rattle.gx_sql.specs.Script.{Reads}
use Rattle.gx_law_locks.proofs.Whole.{world-rounds}
use Rattle.gx_law_locks.proofs.EachVictim.{world-cancels}
use Rattle.gx_law_answers.specs.Cancelled.{AreVictimsCancelled}
use Rattle.gx_law_answers.proofs.Join.{legal, system-legal}
use Rattle.gx_law_answers.proofs.Snaps.{snapshots-one}
use Rattle.gx_law_answers.proofs.Whole.{filled, keyed}
use Rattle.gx_sql.proofs.Limited.{script-kept}
use Rattle.gx_law_scripts.proofs.Whole.{inserts_whole}

cancelled : (script : Script) → 1 ≤ script.segments → AreVictimsCancelled script
cancelled script some events = world-cancels script some (world-rounds script some) events

module _ (bytes : List ℕ) (script : Script) (read : Reads bytes (Ok script)) where
  pub run-legal : (events : List (Event × Bool)) → IsLegalHistory script (run_of (world_of script events))
  run-legal events =
      let is = script-kept bytes script read in
      let inserts = inserts_whole bytes script read in
      legal script is.some_segments is.numbers (keyed script inserts) (snapshots-one script is.some_segments) (filled script inserts) (cancelled script is.some_segments) events

  pub system_run-legal : (run : Run) → IsSystemRun script run → IsLegalHistory script run
  system_run-legal run system =
      let is = script-kept bytes script read in
      let inserts = inserts_whole bytes script read in
      system-legal script is.some_segments is.numbers (keyed script inserts) (snapshots-one script is.some_segments) (filled script inserts) (cancelled script is.some_segments) run system
