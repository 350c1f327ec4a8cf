use Rattle.std.proofs.Common.{◌∙◌, sym}
use Rattle.gx_legal.proofs.Oks.{if_ok}
use Rattle.gx_legal.proofs.Parting.{beside-none, beside-some}
use Rattle.gx_legal.specs.Moments.{point_of}
use Rattle.gx_legal.proofs.parts.is_answer_beside.Goals as goal

pub returns-in-Some : goal.returns-in-Some
returns-in-Some c =
    let s = c.args.moment.now.script.now in
    if_ok c.has_cause.result (λ b h. beside-some s (point_of c.args.moment.now) c.args.session c.args.answer.now c.in-Some.reason b (sym c.refusal_of.ensures ∙ c.in-Some.is) h) c.has_cause.ensures

pub returns-in-None : goal.returns-in-None
returns-in-None c =
    let s = c.args.moment.now.script.now in
    if_ok c.has_returned.result (λ b h. beside-none s (point_of c.args.moment.now) c.args.session c.args.answer.now b (sym c.in-None.ensures) h) c.has_returned.ensures
