use Rattle.std.proofs.lemmas.List.Elements.{All-from_recursion, recursion_from_All}
use Rattle.gx_store.specs.Ordered.{IsAtNode}
use Rattle.gx_ordered.proofs.nodes.are_at_node.Goals as goal

pub returns : goal.returns
returns c =
    let P = IsAtNode c.args.script.now c.args.node in
    let each = c.each_at_node-are.ensures in
    (λ t. All-from_recursion P c.args.marks.now (each.0 t), λ all. each.1 (recursion_from_All P c.args.marks.now all))
