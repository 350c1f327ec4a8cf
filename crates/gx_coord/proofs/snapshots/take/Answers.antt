use Rattle.gx_coord.proofs.Snapped.{ok-snapped}
use Rattle.gx_coord.proofs.snapshots.take.Goals as goal

pub returns-clause-value : goal.returns-clause-value
returns-clause-value c = ok-snapped c.args.dtx.now c.snapshot.result c.requires.drawn.whole c.requires.drawn.late c.snapshot.ensures.xmax c.snapshot.ensures.running c.snapshot.ensures.seen
