use Rattle.gx_ordered.proofs.steps.note_step.Given as goal

abbrev pub ghost-note_marks : goal.ghost-note_marks
ghost-note_marks g a = g.steps
