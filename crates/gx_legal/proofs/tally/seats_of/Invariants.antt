use Rattle.std.proofs.Common.{[]}
use Rattle.gx_legal.specs.Tallies.{AreSeats}
use Rattle.gx_legal.proofs.tally.seats_of.Given as goal

abbrev pub invariant-loop : goal.invariant-loop
invariant-loop l = AreSeats l.script [] [] l.seats.items
