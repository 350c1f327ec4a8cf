-- Nodes as a run has left them.
use Rattle.std.specs.Prelude.{◌≡◌, ◌+◌, ℕ, List, length, slice_get, Some}
use Rattle.gx_script.specs.declared.Script.{Script}
use Rattle.gx_store.specs.declared.run.Step.{Step}
use Rattle.gx_rules.specs.Coordinators.{Coord}
use Rattle.gx_rules.specs.Segments.{Seg}
use Rattle.gx_law_runs.specs.Reached.{IsReached}
use Rattle.gx_law_runs.specs.Replays.{coordinator_after, segment_after}

-- the steps are reached, and the coordinator and the segments, from 1 on, hold what they lead to
pub record AreLeftBy (script : Script) (steps : List Step) (coord : Coord) (segments : List Seg) : Type 0 where
  pub reached : IsReached script steps
  pub coordinator : coordinator_after script steps ≡ coord
  pub count : length segments ≡ script.segments
  pub each : (k : ℕ) (s : Seg) → slice_get segments k ≡ Some s → segment_after script (record { 0 = k + 1 }) steps ≡ s
