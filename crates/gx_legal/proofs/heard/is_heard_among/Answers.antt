use Rattle.std.proofs.Common.{◌<◌, length, sym, subst, refl, ◌∙◌, arith}
use Rattle.std.proofs.lemmas.Option.{slice_get_read}
use Rattle.gx_lemmas.proofs.Lists.{place-below}
use Rattle.gx_lemmas.proofs.Options.{some-same}
use Rattle.gx_lemmas.proofs.Tests.{false-true}
use Rattle.gx_store.specs.declared.mark.Mark.{Mark}
use Rattle.gx_legal.proofs.MarkPlaces.{none-below}
use Rattle.gx_legal.proofs.Sessions.{no-longer}
use Rattle.gx_legal.specs.Words.{IsHeardAt, IsHeardOf}
use Rattle.gx_legal.proofs.heard.is_heard_among.Goals as goal

pub returns-then-is_heard_of : goal.returns-then-is_heard_of
returns-then-is_heard_of c =
    let at = slice_get_read c.args.marks.now (length c.args.marks.now) c.loop-mark.mark-index c.mark-item.result refl c.loop-mark-test.true c.mark-item.is in
    (λ t. (c.loop-mark.mark-index, (c.mark-item.result, at, c.is_heard_of.ensures.0 c.if-is_heard_of.true)), λ by. refl)

pub loop-mark-preserved : goal.loop-mark-preserved
loop-mark-preserved c =
    let r = c.args.report in
    let Q : Mark → Type 0 = IsHeardOf r.gxid r.word r.from r.to c.args.later.now in
    let at = slice_get_read c.args.marks.now (length c.args.marks.now) c.loop-mark.mark-index c.mark-item.result refl c.loop-mark-test.true c.mark-item.is in
    none-below (IsHeardAt r.gxid r.word r.from r.to c.args.later.now c.args.marks.now) c.loop-mark.mark-index c.loop-mark.invariant
    (λ by. no-longer c.is_heard_of.result c.is_heard_of.ensures c.if-is_heard_of.false (subst Q (some-same by.0 c.mark-item.result (sym by.1 ∙ at)) by.2))

pub returns : goal.returns
returns c = (λ t. absurd (false-true t), λ by. absurd (c.loop-mark.invariant by.0 (let inside : by.0 < length c.args.marks.now = place-below c.args.marks.now by.0 by.1.0 by.1.1 in omega arith) by.1))
