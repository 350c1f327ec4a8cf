use Rattle.std.proofs.Common.{refl}
use Rattle.std.proofs.lemmas.Option.{slice_get_read}
use Rattle.gx_world.proofs.graphs.graph_of_segment.Goals as goal

pub graph-requires : goal.graph-requires
graph-requires g c = c.requires.1 c.index.result.now (slice_get_read c.args.network.now.segments.items _ c.args.place c.index.result.now refl c.requires.0 c.index.ensures)
