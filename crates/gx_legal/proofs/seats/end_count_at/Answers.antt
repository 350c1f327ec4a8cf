use Rattle.std.proofs.Common.{◌≡◌, Some, slice_get}
use Rattle.gx_legal.proofs.Tallying.{seat-at}
use Rattle.gx_legal.proofs.seats.end_count_at.Goals as goal

pub returns-in-Some : goal.returns-in-Some
returns-in-Some c =
    let m = c.args.moment.now in
    let at : slice_get m.tally.now.seats.items c.args.session.0 ≡ Some c.in-Some.seat.now =
    seat-at m.tally.now.seats.items c.deref.result.now c.args.session.0 c.in-Some.seat.now c.deref.ensures.value c.in-Some.ensures.lookup.3.0 c.in-Some.ensures.lookup.1 in
    (m.told.seats c.args.session c.in-Some.seat.now at).ended
