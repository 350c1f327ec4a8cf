use Rattle.std.proofs.Common.{◌≡◌}
use Rattle.gx_detect.specs.Wants.{AreListed}
use Rattle.gx_detect.proofs.wants.Wants.of.Given as goal

abbrev pub invariant-loop-index : goal.invariant-loop-index
invariant-loop-index l = record {
  aim : l.wants.aim ≡ l.fn.aim;
  listed : AreListed l.edges l.index l.wants;
}
