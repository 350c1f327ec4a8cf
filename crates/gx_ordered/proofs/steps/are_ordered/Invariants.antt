use Rattle.std.proofs.Common.{◌↔◌, [], drop, take}
use Rattle.gx_store.specs.Ordered.{AreOrdered}
use Rattle.gx_ordered.specs.Links.{AreFiled, IsProgress}
use Rattle.gx_ordered.proofs.steps.are_ordered.Given as goal

abbrev pub ghost-may_follow : goal.ghost-may_follow
ghost-may_follow a = a._before.now

abbrev pub invariant-loop-number : goal.invariant-loop-number
invariant-loop-number l = record {
  progress : IsProgress (take l.number l.steps) l.progress;
  filed : AreFiled (take l.number l.steps);
  ordered : AreOrdered l.script (take l.number l.steps) (drop l.number l.steps) ↔ AreOrdered l.script [] l.steps;
}
