use Rattle.std.proofs.Common.{◌≤◌, length}
use Rattle.gx_explain.proofs.Bytes.{IsWithin}
use Rattle.gx_explain.proofs.tails.behind_text.Given as goal

abbrev pub invariant-loop-byte : goal.invariant-loop-byte
invariant-loop-byte l = IsWithin l.behind l.rest × (length l.rest ≤ length l.behind)

abbrev pub decreases-loop-byte : goal.decreases-loop-byte
decreases-loop-byte l = length l.rest
