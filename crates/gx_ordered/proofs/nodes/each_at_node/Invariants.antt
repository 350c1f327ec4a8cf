use Rattle.std.proofs.Common.{◌↔◌, drop}
use Rattle.std.specs.List.{AllByRecursion}
use Rattle.gx_store.specs.Ordered.{IsAtNode}
use Rattle.gx_ordered.proofs.nodes.each_at_node.Given as goal

abbrev pub invariant-loop-mark : goal.invariant-loop-mark
invariant-loop-mark l = AllByRecursion (IsAtNode l.script l.node) (drop l.mark-index l.marks) ↔ AllByRecursion (IsAtNode l.script l.node) l.marks
