use Rattle.std.proofs.Common.{◌≡◌}
use Rattle.gx_world.specs.Tables.{shown_by}
use Rattle.gx_world.proofs.tables.all_shown.Given as goal

abbrev pub invariant-loop-place : goal.invariant-loop-place
invariant-loop-place l = l.rows.items ≡ shown_by l.network.script.value l.network.run.steps l.snapshot l.table l.place
