use Rattle.std.proofs.lemmas.Result.{on_err_weaker}
use Rattle.gx_node.specs.Changes.{change_of}
use Rattle.gx_node.specs.Outcomes.{Outcome}
use Rattle.gx_node.specs.Phases.{local_of}
use Rattle.gx_node.proofs.Later.{later-either}
use Rattle.gx_segment.proofs.ordering.take_at.Goals as goal

pub returns-clause-later : goal.returns-clause-later
returns-clause-later g c =
    let was = c.args.entry.now in
    later-either c.take_order-taken.result (λ (taken : Outcome). taken.fails) (λ fails. (change_of c.args.order c.args.node c.args.gxid was.kept fails (local_of was.local)).item)
    c.take_order-taken.ensures.took (on_err_weaker c.take_order-taken.result (λ p. p.1) c.take_order-taken.ensures.err)
