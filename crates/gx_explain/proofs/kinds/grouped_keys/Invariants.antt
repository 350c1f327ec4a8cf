use Rattle.std.proofs.Common.{◌≡◌, ◌+◌, drop}
use Rattle.std.specs.List.{prefix_len}
use Rattle.gx_resolve.specs.Naming.{is_among}
use Rattle.gx_explain.proofs.kinds.grouped_keys.Given as goal

abbrev pub invariant-loop-count : goal.invariant-loop-count
invariant-loop-count l = l.count + prefix_len (λ key. is_among l.names key.column) (drop l.count l.keys) ≡ prefix_len (λ key. is_among l.names key.column) l.keys
