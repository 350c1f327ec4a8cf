use Rattle.std.proofs.Common.{◌≡◌, ◌++◌, drop}
use Rattle.gx_waits.specs.Claims.{without_claim}
use Rattle.gx_judging.proofs.locks.without.Given as goal

abbrev pub invariant-loop-other : goal.invariant-loop-other
invariant-loop-other l = l.kept.items ++ without_claim l.claim (drop l.other-index l.claims) ≡ without_claim l.claim l.claims
