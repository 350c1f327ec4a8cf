use Rattle.std.proofs.Common.{subst, sym}
use Rattle.gx_agenda.specs.VecMap.{IsRising}
use Rattle.gx_agenda.proofs.Rising.{at-remove, rising-remove}
use Rattle.gx_agenda.proofs.vec_map.VecMap.remove_at.Goals as goal

pub invariant_of-self : goal.invariant_of-self
invariant_of-self g c = subst (IsRising g.K.Ord.cmp) (sym c.remove.ensures.items) (rising-remove g.met.K.Ord.total _ _ c.self.invariant)

pub returns : goal.returns
returns g c = λ key k stands.
    rw (c.remove.ensures.items, c.self.view_is) (at-remove g.met.K.Ord.total key c.args.self.now c.args.place (subst (IsRising g.K.Ord.cmp) c.self.view_is c.self.invariant) stands k)
