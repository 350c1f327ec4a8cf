use Rattle.std.proofs.Common.{◌∙◌, sym, refl}
use Rattle.gx_legal.proofs.Oks.{if_ok}
use Rattle.gx_legal.specs.Moments.{point_of}
use Rattle.gx_judging.proofs.Refusing.{caused-none, caused-some}
use Rattle.gx_judging.proofs.parts.has_cause_for.Goals as goal

pub returns-in-Some : goal.returns-in-Some
returns-in-Some c =
    let s = c.args.moment.now.script.now in
    if_ok c.has_cause.result (λ b h. caused-some s (point_of c.args.moment.now) c.args.session c.args.answer.now c.in-Some.reason b (sym c.refusal_of.ensures ∙ c.in-Some.is) h) c.has_cause.ensures

pub returns-in-None : goal.returns-in-None
returns-in-None c = (λ t. caused-none c.args.moment.now.script.now (point_of c.args.moment.now) c.args.session c.args.answer.now (sym c.in-None.ensures), λ has. refl)
