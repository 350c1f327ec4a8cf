use Rattle.std.proofs.Common.{List, ap, sym, ◌∙◌}
use Rattle.std.proofs.lemmas.Result.{IfOk-equal}
use Rattle.gx_waits.specs.declared.edge.Edge.{Edge}
use Rattle.gx_locks.specs.declared.hold.Hold.{Hold}
use Rattle.gx_locks.specs.declared.key.Key.TheVariants.{On}
use Rattle.gx_locks.specs.Book.{claims_in}
use Rattle.gx_locks.specs.Graphs.{with_holds}
use Rattle.gx_locks.specs.Holds.{claims_of}
use Rattle.gx_locks.specs.Queue.{with_queue}
use Rattle.gx_locks.proofs.Edges.{edges-filed}
use Rattle.gx_locks.proofs.Ways.{wait-edges}
use Rattle.gx_locks.proofs.graph.add_wait.Goals as goal

pub returns-clause-ok : goal.returns-clause-ok
returns-clause-ok c =
    IfOk-equal c.add_queue.result _ _ _ c.add_queue.ensures.ok
    (ap (λ (edges : List Edge). with_queue (claims_in c.args.book.now) c.args.waits.now edges c.args.wait.now)
    (c.in_ok-add_edges.ensures.ok
    ∙ ap (λ (hs : List Hold). with_holds (claims_of hs) c.args.graph.now.edges c.args.wait.now) (c.on.ensures ∙ c.requires (On c.args.wait.now.object))
    ∙ edges-filed c.args.wait.now c.args.book.now.ledger.holds c.args.graph.now.edges)
    ∙ sym (wait-edges (claims_in c.args.book.now) c.args.waits.now c.args.graph.now.edges c.args.wait.now))
