use Rattle.std.proofs.Common.{◌≡◌, ◌++◌, map, take}
use Rattle.gx_locks.specs.Holds.{claims_of}
use Rattle.gx_rules.specs.Locks.{release_mark}
use Rattle.gx_node.proofs.locking.push_holds.Given as goal

abbrev pub invariant-loop-hold : goal.invariant-loop-hold
invariant-loop-hold l = l.marks.items ≡ l.fn.marks.items ++ map (release_mark l.node) (claims_of (take l.hold-index l.holds))
