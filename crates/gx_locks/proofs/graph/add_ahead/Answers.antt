use Rattle.std.proofs.Common.{sym, ap, ◌∙◌, cond}
use Rattle.std.proofs.lemmas.Result.{IfOk-weaker}
use Rattle.gx_waits.specs.Claim.{edge_of, is_ahead, meets}
use Rattle.gx_waits.specs.Graph.{with_edge, with_hold}
use Rattle.gx_locks.specs.Book.{claims_in}
use Rattle.gx_locks.proofs.Edges.{adds_met}
use Rattle.gx_locks.proofs.Ways.{both, stays-unless}
use Rattle.gx_locks.proofs.graph.add_ahead.Goals as goal

pub returns-then-holds_up-clause-ok : goal.returns-then-holds_up-clause-ok
returns-then-holds_up-clause-ok c =
    let up = both (meets c.args.wait.now c.args.other.now) (is_ahead (claims_in c.args.book.now) c.args.wait.now c.args.other.now) (sym c.if-holds_up.ensures) in
    IfOk-weaker c.add.result _ _
    (λ ok adds. adds_met c.args.wait.now c.args.other.now c.args.graph.now.edges c.add.new.self.edges c.edge_to.result up.0 c.edge_to.ensures adds
    ∙ sym (ap (λ b. cond b (with_hold c.args.wait.now c.args.graph.now.edges c.args.other.now) c.args.graph.now.edges) up.1))
    c.add.ensures.ok

pub returns-clause-ok : goal.returns-clause-ok
returns-clause-ok c =
    stays-unless (meets c.args.wait.now c.args.other.now) (is_ahead (claims_in c.args.book.now) c.args.wait.now c.args.other.now) (with_edge c.args.graph.now.edges (edge_of c.args.wait.now c.args.other.now)) c.args.graph.now.edges (sym c.if-holds_up.ensures)
