use Rattle.std.proofs.Common.{refl}
use Rattle.gx_lemmas.proofs.Tests.{false-true}
use Rattle.gx_legal.proofs.Numbering.{runs-number}
use Rattle.gx_legal.proofs.Oks.{if_ok}
use Rattle.gx_legal.proofs.UnderWay.{line-none, line-some}
use Rattle.gx_legal.specs.Answers.{MayReply}
use Rattle.gx_legal.specs.Moments.{point_of}
use Rattle.gx_legal.proofs.answers.is_legal_reply.Goals as goal

pub may_reply-requires : goal.may_reply-requires
may_reply-requires c = runs-number c.args.moment.now.script.now c.requires (point_of c.args.moment.now) c.args.line.0 c.in-Some.stmt.now ((c.in-Some.ensures c.in-Some.stmt.now).0 refl)

pub returns-in-Some : goal.returns-in-Some
returns-in-Some c =
    let s = c.args.moment.now.script.now in
    let p = point_of c.args.moment.now in
    if_ok c.may_reply.result (λ b h.
    let h2 = line-some s p c.args.line.0 (MayReply s p c.args.line.0 c.args.line.1 c.args.answer.now) c.in-Some.stmt.now b c.in-Some.ensures h in
    (λ t. let may = h2.0 t in record { order = may.2.0; line = may.0; runs = may.1; is = may.2.1 }, λ legal. h2.1 (legal.line, legal.runs, (legal.order, legal.is)))) c.may_reply.ensures

pub returns-in-None : goal.returns-in-None
returns-in-None c =
    let s = c.args.moment.now.script.now in
    let p = point_of c.args.moment.now in (
      λ t. absurd (false-true t),
      λ legal. absurd (line-none s p c.args.line.0 (MayReply s p c.args.line.0 c.args.line.1 c.args.answer.now) c.in-None.ensures (legal.line, legal.runs, (legal.order, legal.is))),
    )
