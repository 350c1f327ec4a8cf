use Rattle.std.proofs.Common.{take}
use Rattle.gx_coord.specs.Places.{AreIndexed}
use Rattle.gx_coord.proofs.places.places_of.Given as goal

abbrev pub invariant-loop-place : goal.invariant-loop-place
invariant-loop-place l = AreIndexed (take l.place l.lines) l.sessions l.places.items
