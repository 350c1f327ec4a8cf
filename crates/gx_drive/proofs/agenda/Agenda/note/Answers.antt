use Rattle.gx_drive.proofs.agenda.Agenda.note.Goals as goal

pub returns : goal.returns
returns c = λ steps agreed due counted told.
    let queue = c.in_ok-note_step.ensures.queue c.args.script.now steps agreed.queue counted in
    record {
      cursors = c.deliver.ensures c.args.script.now steps agreed.cursors due;
      queue = queue;
      asked = c.in_ok-note_step.ensures.asked steps agreed.asked told;
      quiet = c.in_ok-note_step.ensures.quiet c.args.script.now steps agreed.quiet;
      slots = c.note_slots.ensures steps c.args.self.now.slots agreed.slots c.in_ok-note_step.ensures.slots queue;
    }
