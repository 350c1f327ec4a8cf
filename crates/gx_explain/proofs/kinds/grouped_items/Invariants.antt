use Rattle.std.proofs.Common.{◌≡◌, ◌+◌, drop}
use Rattle.std.specs.List.{prefix_len}
use Rattle.gx_explain.specs.Places.{may_group}
use Rattle.gx_explain.proofs.kinds.grouped_items.Given as goal

abbrev pub invariant-loop-count : goal.invariant-loop-count
invariant-loop-count l = l.count + prefix_len (may_group l.names) (drop l.count l.items) ≡ prefix_len (may_group l.names) l.items
