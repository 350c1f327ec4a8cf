use Rattle.std.proofs.Common.{◌≡◌, ◌∙◌, ap, false, subst, sym}
use Rattle.std.specs.Prelude.{Some, slice_get}
use Rattle.gx_groups.specs.Table.{Table, asks, holds}
use Rattle.gx_groups.specs.Slots.{asked}
use Rattle.gx_groups.specs.declared.seat.Standing.TheVariants.{Asking}
use Rattle.gx_groups.proofs.Noted.{IsKept, changed-alone, changed-there, kept-ask, within-noted}
use Rattle.gx_groups.proofs.Whole.{idle-here}
use Rattle.gx_groups.proofs.groups.Groups.ask.Goals as goal

pub note-requires : goal.note-requires
note-requires c =
    within-noted (record { groups = c.self.inside.groups.items; seats = c.self.inside.seats.items }) c.self.inside.standings.items c.args.session c.seat_of-seat.result c.self.invariant.1
    (ap (λ seats. slice_get seats c.args.session.0) (sym c.deref.ensures.value) ∙ c.seat_of-seat.ensures)

pub ask-requires : goal.ask-requires
ask-requires c =
    idle-here
    c.self.inside.groups.items
    c.self.inside.seats.items
    c.args.session
    c.in-Grouped.place
    c.from.result
    c.index_mut.result.now
    c.self.invariant.0
    c.from.ensures
    (ap (λ seats. slice_get seats c.args.session.0) (sym c.deref.ensures.value) ∙ c.seat_of-seat.ensures ∙ ap Some c.in-Grouped.is)
    c.index_mut.ensures.value
    (subst (λ (t : Table). asks t c.args.session ≡ false) (sym c.self.view_is) c.requires.not_asking)
    (subst (λ (t : Table). holds t c.args.session ≡ false) (sym c.self.view_is) c.requires.no_slot)

pub invariant_of-self : goal.invariant_of-self
invariant_of-self c =
    let seat = ap (λ seats. slice_get seats c.args.session.0) (sym c.deref.ensures.value) ∙ c.seat_of-seat.ensures ∙ ap Some c.in-Grouped.is in
    subst (λ t. IsKept t c.note.new.standings.items)
    (changed-there c.self.inside.groups.items c.self.inside.seats.items c.args.session c.in-Grouped.place c.from.result c.index_mut.result.now c.ask.new.self asked Asking c.self.invariant.0 c.from.ensures seat c.index_mut.ensures.value c.ask.ensures)
    (rw c.note.ensures (kept-ask _ _ _ _ seat c.self.invariant.0 c.self.invariant.1 (subst (λ (t : Table). asks t c.args.session ≡ false) (sym c.self.view_is) c.requires.not_asking) (subst (λ (t : Table). holds t c.args.session ≡ false) (sym c.self.view_is) c.requires.no_slot)))

pub invariant_of-self-in-Alone : goal.invariant_of-self-in-Alone
invariant_of-self-in-Alone c =
    let seat = ap (λ seats. slice_get seats c.args.session.0) (sym c.deref.ensures.value) ∙ c.seat_of-seat.ensures ∙ ap Some c.in-Alone.is in
    rw c.stand.ensures (subst (λ t. IsKept t c.note.new.standings.items)
    (changed-alone c.self.inside.groups.items c.self.inside.seats.items c.args.session _ asked Asking seat)
    (rw c.note.ensures (kept-ask _ _ _ _ seat c.self.invariant.0 c.self.invariant.1 (subst (λ (t : Table). asks t c.args.session ≡ false) (sym c.self.view_is) c.requires.not_asking) (subst (λ (t : Table). holds t c.args.session ≡ false) (sym c.self.view_is) c.requires.no_slot))))
