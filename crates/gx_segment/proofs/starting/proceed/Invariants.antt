use Rattle.gx_segment.proofs.starting.proceed.Given as goal

abbrev pub ghost-go_on : goal.ghost-go_on
ghost-go_on g a = record { tables = g.was.script.tables; start = g.was.seg; was = a.held.now }
