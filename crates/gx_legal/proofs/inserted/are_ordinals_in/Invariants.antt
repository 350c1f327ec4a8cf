use Rattle.std.proofs.Common.{◌≡◌, drop}
use Rattle.gx_legal.specs.Told.{are_ordinals_in}
use Rattle.gx_legal.proofs.inserted.are_ordinals_in.Given as goal

abbrev pub invariant-loop-place : goal.invariant-loop-place
invariant-loop-place l = are_ordinals_in l.ordinals l.place (drop l.place l.tuples) ≡ are_ordinals_in l.ordinals 0 l.tuples
