use Rattle.std.proofs.Common.{List, [], subst, sym}
use Rattle.gx_legal.proofs.Tallying.{first-seat, seats-push}
use Rattle.gx_legal.specs.declared.tally.Seat.{Seat}
use Rattle.gx_legal.specs.Tallies.{AreSeats}
use Rattle.gx_legal.proofs.tally.seats_of.Goals as goal

pub loop-preserved : goal.loop-preserved
loop-preserved c =
    let s = c.args.script.now in
    subst (λ (l : List Seat). AreSeats s [] [] l) (sym c.in_ok-push.ensures.items)
    (seats-push s c.loop.seats.items _ c.loop.invariant (λ session. first-seat s session c.no_standing.result c.no_standing.ensures))
