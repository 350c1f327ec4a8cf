use Rattle.std.proofs.Common.{◌∙◌, ◌+◌, ap, drop}
use Rattle.gx_dtx.specs.Table.{Table}
use Rattle.gx_rules.specs.AtCoordinator.{enlisted_all}
use Rattle.gx_coord.proofs.Enlisting.{active-after, enlisted-step}
use Rattle.gx_coord.proofs.orders.enlist_all.Goals as goal

pub loop-node-preserved : goal.loop-node-preserved
loop-node-preserved c =
    record {
      active = active-after c.loop-node.dtx c.enlist.new.self c.args.gxid _ c.in_ok-enlist.ensures.ok c.loop-node.invariant.active;
      enlisted = ap (λ (d : Table). enlisted_all d c.args.gxid (drop (c.loop-node.node-index + 1) c.args.nodes.now)) c.in_ok-enlist.ensures.ok
          ∙ enlisted-step c.loop-node.dtx c.args.gxid c.args.nodes.now c.loop-node.node-index _ c.loop-node-test.true
          ∙ c.loop-node.invariant.enlisted;
    }
