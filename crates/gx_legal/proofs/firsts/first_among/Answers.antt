use Rattle.std.proofs.Common.{◌≡◌, ◌∙◌, ◌<◌, Some, length, slice_get, sym, subst, refl, arith}
use Rattle.std.proofs.lemmas.Option.{slice_get_read}
use Rattle.gx_lemmas.proofs.Lists.{place-below}
use Rattle.gx_lemmas.proofs.Options.{some-same}
use Rattle.gx_store.specs.declared.mark.Mark.{Mark}
use Rattle.gx_legal.proofs.MarkPlaces.{none-below}
use Rattle.gx_legal.proofs.Sessions.{no-longer}
use Rattle.gx_legal.specs.Firsts.{SendsWord, SendsWordAt}
use Rattle.gx_legal.proofs.firsts.first_among.Goals as goal

pub returns-then-sends_word : goal.returns-then-sends_word
returns-then-sends_word c =
    let ms = c.args.marks.now in
    let m = c.index-marks-place.result in
    let at : slice_get ms c.loop-place.place ≡ Some m = slice_get_read ms (length ms) c.loop-place.place m refl c.loop-place-test.true c.index-marks-place.is in
    ((m, at, c.sends_word.ensures.0 c.if-sends_word.true), c.loop-place.invariant)

pub loop-place-preserved : goal.loop-place-preserved
loop-place-preserved c = λ place below mark there sends.
    let r = c.args.report in
    let ms = c.args.marks.now in
    let m = c.index-marks-place.result in
    let at : slice_get ms c.loop-place.place ≡ Some m = slice_get_read ms (length ms) c.loop-place.place m refl c.loop-place-test.true c.index-marks-place.is in
    let Q : Mark → Type 0 = SendsWord r.gxid r.word r.to in
    none-below (SendsWordAt r.gxid r.word r.to ms) c.loop-place.place (λ i inside by. c.loop-place.invariant i inside by.0 by.1 by.2)
    (λ by. no-longer c.sends_word.result c.sends_word.ensures c.if-sends_word.false (subst Q (some-same by.0 m (sym by.1 ∙ at)) by.2)) place below (mark, there, sends)

pub returns : goal.returns
returns c = λ place mark there sends. c.loop-place.invariant place (let inside : place < length c.args.marks.now = place-below c.args.marks.now place mark there in omega (arith, inside, c.loop-place-test.false)) mark there sends
