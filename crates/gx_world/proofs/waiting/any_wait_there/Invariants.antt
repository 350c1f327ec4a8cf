use Rattle.std.proofs.Common.{◌≡◌, ◌+◌, false}
use Rattle.std.specs.List.{list_any}
use Rattle.gx_meaning.specs.Plan.{nodes_from}
use Rattle.gx_law_runs.specs.Replays.{segment_after}
use Rattle.gx_world.specs.Waiting.{waits_there}
use Rattle.gx_world.proofs.waiting.any_wait_there.Given as goal

abbrev pub ghost-any_wait_at : goal.ghost-any_wait_at
ghost-any_wait_at a = segment_after a.network.now.script.value (record { 0 = a.place + 1 }) a.network.now.run.steps

abbrev pub invariant-loop-place : goal.invariant-loop-place
invariant-loop-place l = list_any (waits_there l.network.script.value l.network.run.steps) (nodes_from 1 l.place) ≡ false
