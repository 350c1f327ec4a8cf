use Rattle.std.proofs.Common.{[], ap}
use Rattle.gx_segment.specs.Done.{came}
use Rattle.gx_segment.proofs.Doing.{HasDone-told}
use Rattle.gx_segment.proofs.executing.repeat.Goals as goal

pub returns-clause-done : goal.returns-clause-done
returns-clause-done g c = HasDone-told g.was.script.tables c.args.held.now g.was.seg c.args.gxid c.in_ok-kept.kept (came [] c.tell.result) c.requires.0 c.requires.1 c.in_ok-kept.ensures (ap (came []) c.tell.ensures)
