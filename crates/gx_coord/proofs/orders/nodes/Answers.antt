use Rattle.gx_coord.proofs.Enlisting.{nodes-next}
use Rattle.gx_coord.proofs.orders.nodes.Goals as goal

pub loop-piece-preserved : goal.loop-piece-preserved
loop-piece-preserved c =
    nodes-next c.args.pieces.now c.loop-piece.piece-index _ c.piece-item.result _ _ c.piece-item.is c.loop-piece.invariant c.in_ok-push.ensures.items c.loop-piece-test.true
