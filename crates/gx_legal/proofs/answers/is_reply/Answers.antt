use Rattle.std.proofs.Common.{◌∙◌, refl, sym}
use Rattle.gx_store.specs.Commands.{state_at}
use Rattle.gx_legal.proofs.Judged.{refusal-replies}
use Rattle.gx_legal.specs.Moments.{point_of}
use Rattle.gx_legal.proofs.answers.is_reply.Goals as goal

pub returns-then-is_refusal : goal.returns-then-is_refusal
returns-then-is_refusal c =
    let s = c.args.moment.now.script.now in
    let p = point_of c.args.moment.now in
    (λ t. refusal-replies s p c.args.session (state_at s c.args.session p) c.args.line.now c.args.answer.now (sym c.is_refusal.ensures ∙ c.if-is_refusal.true), λ is. refl)

pub is_judged_reply-requires-clause-reply : goal.is_judged_reply-requires-clause-reply
is_judged_reply-requires-clause-reply c = sym c.is_refusal.ensures ∙ c.if-is_refusal.false
