use Rattle.std.proofs.Common.{◌≡◌, ◌<◌, length, sym, subst, refl, ◌∙◌, arith}
use Rattle.std.proofs.lemmas.Option.{slice_get_read}
use Rattle.gx_lemmas.proofs.Lists.{place-below}
use Rattle.gx_lemmas.proofs.Options.{some-same}
use Rattle.gx_lemmas.proofs.Tests.{false-true}
use Rattle.gx_store.specs.declared.mark.Mark.{Mark}
use Rattle.gx_legal.proofs.MarkPlaces.{none-below}
use Rattle.gx_legal.proofs.Sessions.{no-longer}
use Rattle.gx_store.specs.declared.mark.Mark.TheVariants.{Fault}
use Rattle.gx_legal.specs.Causes.{StandsAt}
use Rattle.gx_legal.proofs.noted.is_note_among.Goals as goal

pub returns-then-is_note : goal.returns-then-is_note
returns-then-is_note c =
    let at = slice_get_read c.args.marks.now (length c.args.marks.now) c.loop-mark.mark-index c.mark-item.result refl c.loop-mark-test.true c.mark-item.is in
    (λ t. (c.loop-mark.mark-index, (c.mark-item.result, at, c.is_note.ensures.0 c.if-is_note.true)), λ by. refl)

pub loop-mark-preserved : goal.loop-mark-preserved
loop-mark-preserved c =
    let Q : Mark → Type 0 = λ m. m ≡ Fault c.args.evaluation.gxid c.args.evaluation.cid c.args.evaluation.rid c.args.evaluation.image.now in
    let at = slice_get_read c.args.marks.now (length c.args.marks.now) c.loop-mark.mark-index c.mark-item.result refl c.loop-mark-test.true c.mark-item.is in
    none-below (StandsAt (Fault c.args.evaluation.gxid c.args.evaluation.cid c.args.evaluation.rid c.args.evaluation.image.now) c.args.marks.now) c.loop-mark.mark-index c.loop-mark.invariant
    (λ by. no-longer c.is_note.result c.is_note.ensures c.if-is_note.false (subst Q (some-same by.0 c.mark-item.result (sym by.1 ∙ at)) by.2))

pub returns : goal.returns
returns c = (λ t. absurd (false-true t), λ by. absurd (c.loop-mark.invariant by.0 (let inside : by.0 < length c.args.marks.now = place-below c.args.marks.now by.0 by.1.0 by.1.1 in omega arith) by.1))
