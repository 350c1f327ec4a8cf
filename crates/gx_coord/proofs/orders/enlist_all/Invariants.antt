use Rattle.std.proofs.Common.{◌≡◌, drop}
use Rattle.gx_dtx.specs.Table.{IsActive}
use Rattle.gx_rules.specs.AtCoordinator.{enlisted_all}
use Rattle.gx_coord.proofs.orders.enlist_all.Given as goal

abbrev pub invariant-loop-node : goal.invariant-loop-node
invariant-loop-node l =
    record {
      active : IsActive l.dtx l.gxid;
      enlisted : enlisted_all l.dtx l.gxid (drop l.node-index l.nodes) ≡ enlisted_all l.fn.dtx l.gxid l.nodes;
    }
