use Rattle.std.proofs.Common.{subst, sym}
use Rattle.gx_agenda.specs.VecMap.{IsRising}
use Rattle.gx_agenda.proofs.Rising.{rising-none}
use Rattle.gx_agenda.proofs.vec_map.VecMap.new.Goals as goal

pub invariant_of-result : goal.invariant_of-result
invariant_of-result g c = subst (IsRising g.K.Ord.cmp) (sym c.new.ensures.items) (rising-none g.K.Ord.cmp)
