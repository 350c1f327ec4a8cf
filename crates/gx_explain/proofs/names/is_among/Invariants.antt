use Rattle.std.proofs.Common.{◌≡◌, drop}
use Rattle.gx_resolve.specs.Naming.{is_among}
use Rattle.gx_explain.proofs.names.is_among.Given as goal

abbrev pub invariant-loop-other : goal.invariant-loop-other
invariant-loop-other l = is_among (drop l.other-index l.names) l.name ≡ is_among l.names l.name
