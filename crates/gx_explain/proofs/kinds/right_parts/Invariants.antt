use Rattle.std.proofs.Common.{◌≡◌, ◌+◌, drop, is_ok}
use Rattle.std.specs.List.{prefix_len}
use Rattle.gx_explain.proofs.kinds.right_parts.Given as goal

abbrev pub invariant-loop-count : goal.invariant-loop-count
invariant-loop-count g l = l.count + prefix_len (λ part. is_ok (g.T.Written.means l.columns part)) (drop l.count l.parts) ≡ prefix_len (λ part. is_ok (g.T.Written.means l.columns part)) l.parts
