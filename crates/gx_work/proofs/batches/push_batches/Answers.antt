use Rattle.std.proofs.Common.{rules, arith}
use Rattle.gx_work.proofs.Nexts.{batches-end, batches-next, batches-start}
use Rattle.gx_work.proofs.batches.push_batches.Goals as goal

pub loop-batch-init : goal.loop-batch-init
loop-batch-init c = (omega arith, batches-start _ _ _)

pub push_next-requires : goal.push_next-requires
push_next-requires c = omega (arith, c.loop-batch.invariant.0)

pub loop-batch-preserved : goal.loop-batch-preserved
loop-batch-preserved c = (
  omega (arith, c.in_ok-others.ensures.fewer, c.loop-batch.invariant.0),
  batches-next _ _ _ _ _ _ _ (search rules) c.in_ok-others.ensures.left c.in_ok-others.ensures.text c.loop-batch.invariant.1,
)

pub returns : goal.returns
returns c = batches-end _ _ _ _ _ (search rules) c.loop-batch.invariant.1
