use Rattle.std.proofs.Common.{◌∙◌, ap, get_or, subst, sym}
use Rattle.std.specs.Prelude.{Some}
use Rattle.gx_agenda.specs.VecMap.{IsRising}
use Rattle.gx_agenda.proofs.Rising.{at-gap, at-place}
use Rattle.gx_agenda.proofs.vec_map.VecMap.find.Goals as goal

pub returns-in-Ok-clause-value : goal.returns-in-Ok-clause-value
returns-in-Ok-clause-value g c =
    ap (λ e. Some e.1) c.index.ensures
    ∙ ap (λ es. Some (get_or es c.in-Ok.place c.index.result.now).1) c.self.view_is
    ∙ sym (at-place g.met.K.Ord.total c.args.key c.args.self.now c.in-Ok.place c.index.result.now (subst (IsRising g.K.Ord.cmp) c.self.view_is c.self.invariant) c.in-Ok.ensures.found)

pub returns-in-Err-clause-value : goal.returns-in-Err-clause-value
returns-in-Err-clause-value g c = sym (at-gap g.met.K.Ord.total c.args.key c.args.self.now c.in-Err.field-0 c.in-Err.ensures.absent)
