use Rattle.std.proofs.Common.{◌∙◌, ◌-◌, None, Some, Option, List, [], ◌∷◌, ap, take}
use Rattle.gx_store.specs.declared.mark.Mark.{Mark}
use Rattle.gx_store.specs.Writes.{Written, last_write}
use Rattle.gx_legal.specs.Written.{counts_for, written_of}
use Rattle.gx_legal.proofs.Backward.{apart, counted}
use Rattle.gx_legal.proofs.Lasts.{written-last}
use Rattle.gx_legal.proofs.writing.last_write.Goals as goal

pub returns-in-Some : goal.returns-in-Some
returns-in-Some c =
    let a = c.args in
    let ms = a.marks.now in
    let m = c.index-marks-place.result in
    let f : List Mark → Option Written = last_write (counts_for a.reader a.before.now) a.rid 0 None in
    let rest : List Mark = take (c.loop-place.place - 1) ms in
    apart f ms c.loop-place.place m (Some (written_of c.in-Some.write)) c.loop-place-test.true c.loop-place.auto.place c.index-marks-place.is c.loop-place.invariant
    (written-last (counts_for a.reader a.before.now) a.rid 0 rest m
    ∙ ap (λ n. last_write (counts_for a.reader a.before.now) a.rid n (f rest) (m ∷ [])) (counted ms c.loop-place.place c.loop-place.auto.place) ∙ c.in-Some.ensures (f rest))

pub loop-place-preserved : goal.loop-place-preserved
loop-place-preserved c =
    let a = c.args in
    let ms = a.marks.now in
    let m = c.index-marks-place.result in
    let f : List Mark → Option Written = last_write (counts_for a.reader a.before.now) a.rid 0 None in
    let rest : List Mark = take (c.loop-place.place - 1) ms in
    apart f ms c.loop-place.place m (f rest) c.loop-place-test.true c.loop-place.auto.place c.index-marks-place.is c.loop-place.invariant
    (written-last (counts_for a.reader a.before.now) a.rid 0 rest m
    ∙ ap (λ n. last_write (counts_for a.reader a.before.now) a.rid n (f rest) (m ∷ [])) (counted ms c.loop-place.place c.loop-place.auto.place) ∙ c.in_default.ensures (f rest))
