use Rattle.std.proofs.Common.{◌≡◌, ◌+◌, drop}
use Rattle.std.specs.List.{prefix_len}
use Rattle.gx_store.specs.Limits.{is_name_byte}
use Rattle.gx_trace.proofs.naming.name_len.Given as goal

abbrev pub invariant-loop-count : goal.invariant-loop-count
invariant-loop-count l = l.count + prefix_len is_name_byte (drop l.count l.left) ≡ prefix_len is_name_byte l.left
