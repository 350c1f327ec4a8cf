use Rattle.std.proofs.Common.{◌≡◌, ◌^◌, drop}
use Rattle.gx_trace.specs.Readers.{number_on}
use Rattle.gx_trace.proofs.numbers.number_on.Given as goal

abbrev pub invariant-loop-place : goal.invariant-loop-place
invariant-loop-place l = number_on (2 ^ 64) l.number (drop l.place l.left) ≡ number_on (2 ^ 64) l.fn.first l.fn.left
