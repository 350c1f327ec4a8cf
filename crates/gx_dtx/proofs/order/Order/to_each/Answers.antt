use Rattle.std.proofs.Common.{◌∙◌, ◌+◌, ◌∷◌, [], ◌++◌, List, ap, sym, drop}
use Rattle.std.proofs.lemmas.List.{append_assoc, drop_more}
use Rattle.gx_ids.specs.declared.ids.Node.{Node}
use Rattle.gx_msg.specs.declared.message.Out.{Out}
use Rattle.gx_dtx.specs.Nodes.{to_each}
use Rattle.gx_dtx.specs.Orders.{message_of}
use Rattle.gx_dtx.proofs.order.Order.to_each.Goals as goal

pub loop-node-preserved : goal.loop-node-preserved
loop-node-preserved c =
    let m = message_of c.args.self c.args.gxid in
    let nodes = c.args.nodes.now in
    let outs = c.loop-node.outs.items in
    let rest : List Node = drop (c.loop-node.node-index + 1) nodes in
    ap (λ (l : List Out). l ++ to_each m rest) c.in_ok-push.ensures.items
    ∙ append_assoc outs (c.out.result ∷ []) (to_each m rest)
    ∙ ap (λ (o : Out). outs ++ o ∷ to_each m rest) c.out.ensures
    ∙ ap (λ (l : List Node). outs ++ to_each m l) (sym (drop_more nodes c.loop-node.node-index _ c.loop-node-test.true))
    ∙ c.loop-node.invariant
