use Rattle.std.proofs.Common.{rules, subst, sym, ◌≡◌, slice_get}
use Rattle.std.specs.Prelude.{IfSome}
use Rattle.gx_agenda.specs.VecMap.{IsLeast, IsRising}
use Rattle.gx_agenda.proofs.Rising.{least-first}
use Rattle.gx_agenda.proofs.vec_map.VecMap.first.Goals as goal

pub returns-clause-least : goal.returns-clause-least
returns-clause-least g c =
    let is : c.copied.result ≡ slice_get c.args.self.now 0 = search rules in
    subst (λ o. IfSome o (λ e. IsLeast g.K.Ord.cmp c.args.self.now e.0)) (sym is) (least-first g.met.K.Ord.total c.args.self.now (subst (IsRising g.K.Ord.cmp) c.self.view_is c.self.invariant))
