use Rattle.std.proofs.Common.{sym}
use Rattle.std.proofs.lemmas.Result.{IfOk-weaker}
use Rattle.gx_locks.proofs.Edges.{adds_met}
use Rattle.gx_locks.proofs.graph.add_hold.Goals as goal

pub returns-then-is_met-clause-ok : goal.returns-then-is_met-clause-ok
returns-then-is_met-clause-ok c =
    IfOk-weaker c.add.result _ _
    (λ ok adds. adds_met c.args.wait.now c.args.hold.now c.args.graph.now.edges c.add.new.self.edges c.edge_to.result (sym c.if-is_met.ensures) c.edge_to.ensures adds)
    c.add.ensures.ok
