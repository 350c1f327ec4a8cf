use Rattle.std.proofs.Common.{◌≡◌, ℕ, ◌<◌, ◌≤◌, length, get_or, true, false}
use Rattle.gx_decide.proofs.disk_mem.fill_pending.Given as goal

abbrev pub invariant-loop-place : goal.invariant-loop-place
invariant-loop-place l = record {
  bytes : length l.bytes ≡ length l.fn.bytes;
  pending : length l.pending ≡ length l.fn.pending;
  filled : (place : ℕ) → place < l.place → get_or l.fn.pending place false ≡ true → get_or l.bytes place 0 ≡ l.fill;
  stayed : (place : ℕ) → get_or l.fn.pending place false ≡ false → get_or l.bytes place 0 ≡ get_or l.fn.bytes place 0;
  durable : (place : ℕ) → place < l.place → get_or l.pending place false ≡ false;
  left : (place : ℕ) → l.place ≤ place → get_or l.pending place false ≡ get_or l.fn.pending place false;
}
