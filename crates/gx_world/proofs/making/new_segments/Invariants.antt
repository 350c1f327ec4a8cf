use Rattle.std.proofs.Common.{◌≡◌, length}
use Rattle.gx_world.specs.Made.{AreNew}
use Rattle.gx_world.proofs.making.new_segments.Given as goal

abbrev pub invariant-loop-before : goal.invariant-loop-before
invariant-loop-before l = (length l.segments.items ≡ l.before) × AreNew l.script.value l.segments.items
