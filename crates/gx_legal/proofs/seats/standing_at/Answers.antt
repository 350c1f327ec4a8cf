use Rattle.std.proofs.Common.{◌≡◌, Some, slice_get}
use Rattle.gx_legal.proofs.Tallying.{seat-at}
use Rattle.gx_legal.proofs.seats.standing_at.Goals as goal

pub returns-in-Some-clause-is : goal.returns-in-Some-clause-is
returns-in-Some-clause-is c =
    let m = c.args.moment.now in
    let at : slice_get m.tally.now.seats.items c.args.session.0 ≡ Some c.in-Some.seat.now =
    seat-at m.tally.now.seats.items c.deref.result.now c.args.session.0 c.in-Some.seat.now c.deref.ensures.value c.in-Some.ensures.lookup.3.0 c.in-Some.ensures.lookup.1 in
    (m.told.seats c.args.session c.in-Some.seat.now at).standing

pub returns-in-Some-clause-answers : goal.returns-in-Some-clause-answers
returns-in-Some-clause-answers c =
    let m = c.args.moment.now in
    let at : slice_get m.tally.now.seats.items c.args.session.0 ≡ Some c.in-Some.seat.now =
    seat-at m.tally.now.seats.items c.deref.result.now c.args.session.0 c.in-Some.seat.now c.deref.ensures.value c.in-Some.ensures.lookup.3.0 c.in-Some.ensures.lookup.1 in
    (m.told.seats c.args.session c.in-Some.seat.now at).answers

pub returns-in-Some-clause-commands : goal.returns-in-Some-clause-commands
returns-in-Some-clause-commands c =
    let m = c.args.moment.now in
    let at : slice_get m.tally.now.seats.items c.args.session.0 ≡ Some c.in-Some.seat.now =
    seat-at m.tally.now.seats.items c.deref.result.now c.args.session.0 c.in-Some.seat.now c.deref.ensures.value c.in-Some.ensures.lookup.3.0 c.in-Some.ensures.lookup.1 in
    (m.told.seats c.args.session c.in-Some.seat.now at).commands
