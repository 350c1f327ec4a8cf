use Rattle.std.proofs.Common.{◌↔◌, drop}
use Rattle.std.specs.List.{AllByRecursion}
use Rattle.gx_judging.specs.Standing.{StandsIfNamed}
use Rattle.gx_judging.proofs.standing.do_stand.Given as goal

abbrev pub invariant-loop-placed : goal.invariant-loop-placed
invariant-loop-placed l = AllByRecursion (StandsIfNamed l.named l.locks) (drop l.placed-index l.edges) ↔ AllByRecursion (StandsIfNamed l.named l.locks) l.edges
