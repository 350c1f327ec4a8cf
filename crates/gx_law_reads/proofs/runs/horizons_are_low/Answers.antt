use Rattle.gx_rules.specs.Machine.{world_of}
use Rattle.gx_law_order.proofs.World.{world_knows}
use Rattle.gx_law_reads.proofs.Low.{lows-are, world-lows}
use Rattle.gx_law_reads.proofs.runs.horizons_are_low.Goals as goal

pub returns : goal.returns
returns c = λ script events some. lows-are script (world_of script events) (world_knows script some events) (world-lows script some events)
