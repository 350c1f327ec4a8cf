use Rattle.gx_segment.proofs.segment.Segment.step.Given as goal

abbrev pub ghost-step_on : goal.ghost-step_on
ghost-step_on g a = record { script = a.script.now; seg = g.s }
