use Rattle.std.proofs.Common.{◌≡◌, drop}
use Rattle.gx_msg.specs.Steps.{read_on, read}
use Rattle.gx_msg.proofs.read.read.Given as goal

abbrev pub invariant-loop-place : goal.invariant-loop-place
invariant-loop-place l = read_on (drop l.place l.bytes) l.mid l.place ≡ read l.bytes
