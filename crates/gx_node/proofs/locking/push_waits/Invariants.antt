use Rattle.std.proofs.Common.{◌≡◌, ◌++◌, map, take}
use Rattle.gx_rules.specs.Locks.{release_mark}
use Rattle.gx_node.proofs.locking.push_waits.Given as goal

abbrev pub invariant-loop-wait : goal.invariant-loop-wait
invariant-loop-wait l = l.marks.items ≡ l.fn.marks.items ++ map (release_mark l.node) (take l.wait-index l.waits)
