use Rattle.std.proofs.Common.{List, ap, subst, sym, ◌∙◌}
use Rattle.std.proofs.lemmas.Result.{IfOk-weaker}
use Rattle.gx_waits.specs.declared.edge.Edge.{Edge}
use Rattle.gx_waits.specs.Claim.{AreEdges}
use Rattle.gx_locks.specs.Book.{claims_in}
use Rattle.gx_locks.specs.Graphs.{graph_at}
use Rattle.gx_locks.proofs.Edges.{are_edges}
use Rattle.gx_locks.proofs.table.LockTable.graph.Goals as goal

pub returns-clause-graph : goal.returns-clause-graph
returns-clause-graph c =
    IfOk-weaker c.graph_of.result _ _
    (λ graph is. is ∙ ap (λ waits. graph_at (record { node = c.self.inside.node; holds = claims_in c.self.inside.book; waits = waits })) c.as_slice.ensures.value ∙ ap graph_at c.self.view_is)
    c.graph_of.ensures

pub returns-clause-edges : goal.returns-clause-edges
returns-clause-edges c =
    IfOk-weaker c.graph_of.result _ _
    (λ graph is. subst (λ (edges : List Edge). AreEdges c.args.self.now.waits c.args.self.now.holds edges) (sym (ap (λ g. g.edges) is)) (are_edges c.args.self.now.waits c.args.self.now.holds))
    (returns-clause-graph c)
