use Rattle.std.proofs.Common.{subst, sym}
use Rattle.gx_agenda.specs.VecMap.{IsRising}
use Rattle.gx_agenda.proofs.Rising.{at-remove, rising-remove, unchanged}
use Rattle.gx_agenda.proofs.vec_map.VecMap.remove.Goals as goal

pub invariant_of-self : goal.invariant_of-self
invariant_of-self g c = subst (IsRising g.K.Ord.cmp) (sym c.remove.ensures.items) (rising-remove g.met.K.Ord.total _ _ c.self.invariant)

pub returns-in-Ok : goal.returns-in-Ok
returns-in-Ok g c =
    rw (c.remove.ensures.items, c.self.view_is) (at-remove g.met.K.Ord.total c.args.key c.args.self.now c.in-Ok.place (subst (IsRising g.K.Ord.cmp) c.self.view_is c.self.invariant) c.in-Ok.ensures.found)

pub returns-in-Err : goal.returns-in-Err
returns-in-Err g c = unchanged g.met.K.Ord.total c.args.key c.args.self.now c.in-Err.field-0 c.in-Err.ensures.absent
