use Rattle.std.proofs.Common.{◌∙◌, ◌-◌, None, Option, List, take}
use Rattle.gx_tree.specs.declared.value.Value.{Value}
use Rattle.gx_store.specs.declared.mark.Mark.{Mark}
use Rattle.gx_store.specs.View.{image_after, is_shown_to}
use Rattle.gx_legal.proofs.Backward.{apart}
use Rattle.gx_legal.proofs.Lasts.{image-last}
use Rattle.gx_legal.proofs.writing.image.Goals as goal

pub returns-in-Some : goal.returns-in-Some
returns-in-Some c =
    let a = c.args in
    let ms = a.marks.now in
    let f : List Mark → Option (List Value) = image_after (is_shown_to a.reader a.before.now) a.table a.rid None in
    let rest : List Mark = take (c.loop-place.place - 1) ms in
    c.as_ref.ensures.value
    ∙ apart f ms c.loop-place.place c.index-marks-place.result c.in-Some.image.now c.loop-place-test.true c.loop-place.auto.place c.index-marks-place.is c.loop-place.invariant
    (image-last (is_shown_to a.reader a.before.now) a.table a.rid rest c.index-marks-place.result ∙ c.in-Some.ensures (f rest))

pub loop-place-preserved : goal.loop-place-preserved
loop-place-preserved c =
    let a = c.args in
    let ms = a.marks.now in
    let f : List Mark → Option (List Value) = image_after (is_shown_to a.reader a.before.now) a.table a.rid None in
    let rest : List Mark = take (c.loop-place.place - 1) ms in
    apart f ms c.loop-place.place c.index-marks-place.result (f rest) c.loop-place-test.true c.loop-place.auto.place c.index-marks-place.is c.loop-place.invariant
    (image-last (is_shown_to a.reader a.before.now) a.table a.rid rest c.index-marks-place.result ∙ c.in_default.ensures (f rest))
