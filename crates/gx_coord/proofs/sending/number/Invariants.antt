use Rattle.std.proofs.Common.{◌≡◌, ◌<◌, ◌≤◌, ◌+◌, ◌++◌, ◌^◌, All, length, reverse, slice_index, vec_capacity, vec_len}
use Rattle.gx_rules.specs.Sending.{counted_all, numbered}
use Rattle.gx_coord.proofs.sending.number.Given as goal

abbrev pub invariant-loop-out : goal.invariant-loop-out
invariant-loop-out l =
    (length l.sent.items ≡ length l.fn.sent.items) ×
    All (λ out. out.node.0 < length l.sent.items) (reverse l.outs.items) ×
    All (λ n. n < 2 ^ 62 + length l.marks.items) l.sent.items ×
    (l.marks.items ++ numbered (slice_index l.sent.items) (reverse l.outs.items) ≡ l.fn.marks.items ++ numbered (slice_index l.fn.sent.items) l.fn.outs.items) ×
    (counted_all (slice_index l.sent.items) (reverse l.outs.items) ≡ counted_all (slice_index l.fn.sent.items) l.fn.outs.items) ×
    (vec_len l.marks + vec_len l.outs ≤ vec_capacity l.marks)

abbrev pub decreases-loop-out : goal.decreases-loop-out
decreases-loop-out l = goal.left-loop-out l
