use Rattle.std.proofs.Common.{◌≡◌, ◌∙◌, ap, true, subst, sym}
use Rattle.std.specs.Prelude.{Some, slice_get}
use Rattle.gx_groups.specs.Table.{Table, may}
use Rattle.gx_groups.specs.Slots.{taken}
use Rattle.gx_groups.specs.declared.seat.Standing.TheVariants.{Holding}
use Rattle.gx_groups.proofs.Noted.{IsKept, changed-alone, changed-there, kept-take, within-noted}
use Rattle.gx_groups.proofs.groups.Groups.take.Goals as goal

pub note-requires : goal.note-requires
note-requires c =
    within-noted (record { groups = c.self.inside.groups.items; seats = c.self.inside.seats.items }) c.self.inside.standings.items c.args.session c.seat_of-seat.result c.self.invariant.1
    (ap (λ seats. slice_get seats c.args.session.0) (sym c.deref.ensures.value) ∙ c.seat_of-seat.ensures)

pub invariant_of-self : goal.invariant_of-self
invariant_of-self c =
    let seat = ap (λ seats. slice_get seats c.args.session.0) (sym c.deref.ensures.value) ∙ c.seat_of-seat.ensures ∙ ap Some c.in-Grouped.is in
    subst (λ t. IsKept t c.note.new.standings.items)
    (changed-there c.self.inside.groups.items c.self.inside.seats.items c.args.session c.in-Grouped.place c.from.result c.index_mut.result.now c.take.new.self taken Holding c.self.invariant.0 c.from.ensures seat c.index_mut.ensures.value c.take.ensures)
    (rw c.note.ensures (kept-take _ _ _ _ seat c.self.invariant.0 c.self.invariant.1 (subst (λ (t : Table). may t c.args.session ≡ true) (sym c.self.view_is) c.requires)))

pub invariant_of-self-in-Alone : goal.invariant_of-self-in-Alone
invariant_of-self-in-Alone c =
    let seat = ap (λ seats. slice_get seats c.args.session.0) (sym c.deref.ensures.value) ∙ c.seat_of-seat.ensures ∙ ap Some c.in-Alone.is in
    rw c.stand.ensures (subst (λ t. IsKept t c.note.new.standings.items)
    (changed-alone c.self.inside.groups.items c.self.inside.seats.items c.args.session _ taken Holding seat)
    (rw c.note.ensures (kept-take _ _ _ _ seat c.self.invariant.0 c.self.invariant.1 (subst (λ (t : Table). may t c.args.session ≡ true) (sym c.self.view_is) c.requires))))
