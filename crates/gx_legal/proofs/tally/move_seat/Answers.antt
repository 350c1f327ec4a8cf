use Rattle.std.proofs.Common.{◌≡◌, Some, length, refl, slice_get, arith}
use Rattle.std.proofs.lemmas.Option.{slice_get_read}
use Rattle.gx_ids.specs.declared.ids.SessionId.{SessionId}
use Rattle.gx_legal.proofs.Tallying.{seat-stays, seats-kept, seats-set}
use Rattle.gx_legal.specs.declared.tally.Seat.{Seat}
use Rattle.gx_legal.specs.Tallies.{IsSeatMoved}
use Rattle.gx_legal.proofs.tally.move_seat.Goals as goal

pub moved-requires-clause-commands : goal.moved-requires-clause-commands
moved-requires-clause-commands c =
    let a = c.args in
    let at : slice_get a.seats.now.items a.session.0 ≡ Some c.index-seat.result.now =
    slice_get_read a.seats.now.items (length a.seats.now.items) a.session.0 c.index-seat.result.now refl (omega (arith, c.if-place-len.true, c.len.ensures)) c.index-seat.ensures in
    (c.requires.room a.session c.index-seat.result.now at).0

pub moved-requires-clause-answers : goal.moved-requires-clause-answers
moved-requires-clause-answers c =
    let a = c.args in
    let at : slice_get a.seats.now.items a.session.0 ≡ Some c.index-seat.result.now =
    slice_get_read a.seats.now.items (length a.seats.now.items) a.session.0 c.index-seat.result.now refl (omega (arith, c.if-place-len.true, c.len.ensures)) c.index-seat.ensures in
    (c.requires.room a.session c.index-seat.result.now at).1

pub returns-then-place-len : goal.returns-then-place-len
returns-then-place-len c =
    let a = c.args in
    let at : slice_get a.seats.now.items a.session.0 ≡ Some c.index-seat.result.now =
    slice_get_read a.seats.now.items (length a.seats.now.items) a.session.0 c.index-seat.result.now refl (omega (arith, c.if-place-len.true, c.len.ensures)) c.index-seat.ensures in
    seats-set (λ (t : SessionId) (x y : Seat). IsSeatMoved a.script.now t a.mark.now x y) a.seats.now.items a.session
    (λ other seat ne. seat-stays a.script.now a.mark.now other seat (c.requires.others other seat.standing ne)) c.index-seat.result.now _ at (record { moved = c.moved.ensures.is; room = c.moved.ensures.room; started = refl; ended = refl })

pub returns-else-place-len : goal.returns-else-place-len
returns-else-place-len c =
    let a = c.args in
    seats-kept (λ (t : SessionId) (x y : Seat). IsSeatMoved a.script.now t a.mark.now x y) a.seats.now.items a.session
    (λ other seat ne. seat-stays a.script.now a.mark.now other seat (c.requires.others other seat.standing ne)) (omega (arith, c.if-place-len.false, c.len.ensures))
