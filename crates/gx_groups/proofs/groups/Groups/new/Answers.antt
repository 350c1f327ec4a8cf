use Rattle.gx_groups.proofs.Fresh.{whole-fresh}
use Rattle.gx_groups.proofs.Noted.{noted-fresh}
use Rattle.gx_groups.proofs.groups.Groups.new.Goals as goal

pub invariant_of-result : goal.invariant_of-result
invariant_of-result c = (
  rw (c.in_ok-groups.ensures, c.in_ok-seats.ensures) (whole-fresh c.args.of.now c.args.limits.now c.requires.within),
  rw (c.in_ok-groups.ensures, c.in_ok-seats.ensures, c.in_ok-standings.ensures) (noted-fresh c.args.of.now c.args.limits.now c.requires.within),
)
