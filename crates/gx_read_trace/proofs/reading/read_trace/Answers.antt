use Rattle.gx_read_trace.proofs.Readings.{meant}
use Rattle.gx_read_trace.proofs.reading.read_trace.Goals as goal

pub returns-clause-meant : goal.returns-clause-meant
returns-clause-meant c = meant c.args.script.now c.args.bytes.now c.read_all.result c.requires c.read_all.ensures
