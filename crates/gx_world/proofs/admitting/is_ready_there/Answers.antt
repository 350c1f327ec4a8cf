use Rattle.gx_world.proofs.Segs.{segment-read}
use Rattle.gx_world.proofs.admitting.is_ready_there.Goals as goal

pub can_resume-requires : goal.can_resume-requires
can_resume-requires g c = c.requires.1.1 c.index.result.now (segment-read c.args.network.now.segments.items c.args.node.0 c.from.result c.index.result.now c.from.ensures c.requires.0 c.requires.1.0 c.index.ensures)
