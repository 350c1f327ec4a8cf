use Rattle.std.proofs.Common.{◌≡◌, Some, length, refl, slice_get, arith}
use Rattle.std.proofs.lemmas.Option.{slice_get_read}
use Rattle.gx_ids.specs.declared.ids.SessionId.{SessionId}
use Rattle.gx_store.specs.declared.event.Event.TheVariants as event
use Rattle.gx_legal.proofs.Tallying.{start-elsewhere, start-here, seats-kept, seats-set}
use Rattle.gx_legal.specs.declared.tally.Seat.{Seat}
use Rattle.gx_legal.specs.Tallies.{IsSeatStepped}
use Rattle.gx_legal.proofs.tally.start_line.Goals as goal

pub overflow_add-seat : goal.overflow_add-seat
overflow_add-seat c =
    let a = c.args in
    let at : slice_get a.seats.now.items a.session.0 ≡ Some c.index-seat.result.now =
    slice_get_read a.seats.now.items (length a.seats.now.items) a.session.0 c.index-seat.result.now refl (omega (arith, c.if-place-len.true, c.len.ensures)) c.index-seat.ensures in
    let room = (c.requires a.session c.index-seat.result.now at).0 in
    omega (arith, room)

pub returns-then-place-len : goal.returns-then-place-len
returns-then-place-len c =
    let a = c.args in
    let at : slice_get a.seats.now.items a.session.0 ≡ Some c.index-seat.result.now =
    slice_get_read a.seats.now.items (length a.seats.now.items) a.session.0 c.index-seat.result.now refl (omega (arith, c.if-place-len.true, c.len.ensures)) c.index-seat.ensures in
    seats-set (λ (t : SessionId) (x y : Seat). IsSeatStepped t (event.Start a.session) x y) a.seats.now.items a.session (start-elsewhere a.session) c.index-seat.result.now _ at (start-here a.session c.index-seat.result.now)

pub returns-else-place-len : goal.returns-else-place-len
returns-else-place-len c =
    let a = c.args in
    seats-kept (λ (t : SessionId) (x y : Seat). IsSeatStepped t (event.Start a.session) x y) a.seats.now.items a.session (start-elsewhere a.session) (omega (arith, c.if-place-len.false, c.len.ensures))
