use Rattle.std.proofs.Common.{◌∙◌, sym, refl}
use Rattle.gx_legal.proofs.Oks.{if_ok}
use Rattle.gx_legal.specs.Moments.{point_of}
use Rattle.gx_judging.proofs.Refusing.{returned-none, returned-some}
use Rattle.gx_judging.proofs.parts.has_returned_for.Goals as goal

pub returns-in-Some : goal.returns-in-Some
returns-in-Some c = (λ t. returned-some c.args.moment.now.script.now (point_of c.args.moment.now) c.args.session c.args.answer.now c.in-Some._reason (sym c.refusal_of.ensures ∙ c.in-Some.is), λ has. refl)

pub returns-in-None : goal.returns-in-None
returns-in-None c =
    let s = c.args.moment.now.script.now in
    if_ok c.has_returned.result (λ b h. returned-none s (point_of c.args.moment.now) c.args.session c.args.answer.now b (sym c.in-None.ensures) h) c.has_returned.ensures
