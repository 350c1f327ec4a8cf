use Rattle.std.proofs.Common.{◌≡◌, ◌^◌, drop}
use Rattle.gx_trace.specs.Readers.{number_on}
use Rattle.gx_trace.proofs.numbers.vast_number_on.Given as goal

abbrev pub invariant-loop-place : goal.invariant-loop-place
invariant-loop-place l = number_on (2 ^ 128) l.number (drop l.place l.left) ≡ number_on (2 ^ 128) l.fn.first l.fn.left
