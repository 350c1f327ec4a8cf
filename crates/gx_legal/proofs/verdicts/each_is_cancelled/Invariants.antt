use Rattle.std.proofs.Common.{◌↔◌, drop}
use Rattle.std.specs.List.{AllByRecursion}
use Rattle.gx_store.specs.Legal.{IsCancelled}
use Rattle.gx_legal.specs.Moments.{point_of}
use Rattle.gx_legal.proofs.verdicts.each_is_cancelled.Given as goal

abbrev pub invariant-loop-victim : goal.invariant-loop-victim
invariant-loop-victim l = AllByRecursion (IsCancelled (point_of l.moment) l.round) (drop l.victim-index l.victims) ↔ AllByRecursion (IsCancelled (point_of l.moment) l.round) l.victims
