use Rattle.std.proofs.Common.{◌≡◌, drop}
use Rattle.gx_trace.specs.Names.{found}
use Rattle.gx_trace.proofs.naming.place_of.Given as goal

abbrev pub invariant-loop-place : goal.invariant-loop-place
invariant-loop-place l = found l.place (drop l.place l.names) l.name ≡ found 0 l.names l.name
