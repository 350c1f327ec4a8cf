use Rattle.std.proofs.Common.{◌≤◌, ◌-◌, List, ℕ, length}
use Rattle.gx_explain.specs.Tails.{IsTail}
use Rattle.gx_explain.proofs.tails.tail_behind.Given as goal

abbrev pub invariant-loop-token : goal.invariant-loop-token
invariant-loop-token l = ((tail : List ℕ) → IsTail (l.count - l._token) l.rest tail → IsTail l.count l.line tail) × (length l.rest ≤ length l.line)
