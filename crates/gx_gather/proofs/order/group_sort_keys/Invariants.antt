use Rattle.std.proofs.Common.{◌≡◌, take}
use Rattle.gx_meaning.specs.Answer.{group_keys}
use Rattle.gx_gather.proofs.order.group_sort_keys.Given as goal

abbrev pub invariant-loop-key : goal.invariant-loop-key
invariant-loop-key l = l.keys.items ≡ group_keys l.group (take l.key-index l.order)
