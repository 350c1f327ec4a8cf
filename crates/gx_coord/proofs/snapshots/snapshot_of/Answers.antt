use Rattle.gx_coord.proofs.Snapped.{ok-snapped}
use Rattle.gx_coord.proofs.snapshots.snapshot_of.Goals as goal

pub returns : goal.returns
returns c = ok-snapped c.args.dtx.now c.final_snapshot.result c.requires.whole c.requires.late c.final_snapshot.ensures.xmax c.final_snapshot.ensures.running c.final_snapshot.ensures.seen
