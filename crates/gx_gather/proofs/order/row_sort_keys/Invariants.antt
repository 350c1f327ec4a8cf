use Rattle.std.proofs.Common.{◌≡◌, take}
use Rattle.gx_meaning.specs.Answer.{row_keys}
use Rattle.gx_gather.proofs.order.row_sort_keys.Given as goal

abbrev pub invariant-loop-key : goal.invariant-loop-key
invariant-loop-key l = l.keys.items ≡ row_keys (take l.key-index l.order)
