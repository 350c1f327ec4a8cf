use Rattle.std.proofs.Common.{◌+◌, ap, arith, length}
use Rattle.gx_agenda.proofs.Telling.{kept-next}
use Rattle.gx_agenda.proofs.own_slots.OwnSlots.tell.Goals as goal

pub returns : goal.returns
returns c = λ steps own.
    let script = c.args.script.now in
    let was = c.args.self.now in
    kept-next script steps c.args.step.now was (record { queue = c.note_lines.new.queue; slots = c.note_slots.new.slots; told = was.told + length c.marks.result.now + 1 }) was.slots c.note_lines.new.slots c.note_slots.new.slots
    c.requires.groups own c.in_ok-note_lines.ensures.slots (c.in_ok-note_lines.ensures.queue script steps) (c.note_slots.ensures steps)
    (ap (λ ms. was.told + length ms + 1) c.marks.ensures) (omega (arith, c.if-count-ge-MOST.false, c.if-self-count.false))
