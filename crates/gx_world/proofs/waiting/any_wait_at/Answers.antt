use Rattle.std.proofs.Common.{refl}
use Rattle.std.proofs.lemmas.Option.{slice_get_read}
use Rattle.gx_world.proofs.waiting.any_wait_at.Goals as goal

pub any_wait-requires : goal.any_wait-requires
any_wait-requires g c = c.requires.1 c.index.result.now (slice_get_read c.args.network.now.segments.items _ c.args.place c.index.result.now refl c.requires.0 c.index.ensures)
