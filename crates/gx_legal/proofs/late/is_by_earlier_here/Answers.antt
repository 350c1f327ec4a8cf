use Rattle.std.proofs.Common.{refl}
use Rattle.gx_store.specs.Points.{marks_in}
use Rattle.gx_legal.proofs.Earlier.{in-step-like}
use Rattle.gx_legal.proofs.Oks.{if_ok}
use Rattle.gx_legal.proofs.Stretching.{own-among, own-begins}
use Rattle.gx_legal.specs.Deeds.{doing_of}
use Rattle.gx_legal.specs.Moments.{point_of}
use Rattle.gx_legal.proofs.late.is_by_earlier_here.Goals as goal

pub invariant_of-stretch : goal.invariant_of-stretch
invariant_of-stretch c =
    let m = c.args.moment.now in
    record { begins = own-begins (marks_in m.steps.now) m.earlier.now m.before.now m.whole; among = own-among (marks_in m.steps.now) m.earlier.now m.before.now m.whole }

pub returns : goal.returns
returns c =
    let m = c.args.moment.now in
    let p = point_of m in
    let d = doing_of c.args.deed.now in
    if_ok c.is_by_earlier_in_step.result
    (λ b h. (λ t. in-step-like m.script.now _ p d refl refl refl (h.0 t), λ by. h.1 (in-step-like m.script.now p _ d refl refl refl by))) c.is_by_earlier_in_step.ensures.is
