use Rattle.gx_rules.specs.Machine.{world_of}
use Rattle.gx_law_order.proofs.World.{world_knows}
use Rattle.gx_law_order.proofs.Always.{world-holds}
use Rattle.gx_law_reads.proofs.Below.{nobody-dropped}
use Rattle.gx_law_reads.proofs.Ends.{world-facts}
use Rattle.gx_law_reads.proofs.runs.nobody_is_dropped_too_early.Goals as goal

pub returns : goal.returns
returns c = λ script events some. nobody-dropped script (world_of script events) (world_knows script some events) (world-holds script some events) (world-facts script some events)
