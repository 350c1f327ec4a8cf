use Rattle.gx_segment.proofs.segment.Segment.receive.Given as goal

abbrev pub ghost-receive_on : goal.ghost-receive_on
ghost-receive_on g a = record { script = a.script.now; seg = g.s }
