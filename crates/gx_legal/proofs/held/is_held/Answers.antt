use Rattle.std.proofs.Common.{◌∙◌, ◌-◌, Bool, false, Option, List, ap, sym, take}
use Rattle.std.specs.Prelude.{unwrap_or}
use Rattle.gx_store.specs.declared.mark.Mark.{Mark}
use Rattle.gx_legal.specs.Told.{held_from}
use Rattle.gx_legal.proofs.Backward.{apart}
use Rattle.gx_legal.proofs.Lasts.{held-last}
use Rattle.gx_legal.proofs.held.is_held.Goals as goal

pub returns-in-Some : goal.returns-in-Some
returns-in-Some c =
    let ms = c.args.marks.now in
    let m = c.index-marks-place.result in
    let f : List Mark → Bool = held_from c.args.node c.args.wanted.now false in
    let rest : List Mark = take (c.loop-place.place - 1) ms in
    apart f ms c.loop-place.place m c.in-Some.held c.loop-place-test.true c.loop-place.auto.place c.index-marks-place.is c.loop-place.invariant
    (held-last c.args.node c.args.wanted.now rest m ∙ ap (λ (o : Option Bool). unwrap_or o (f rest)) (sym c.in-Some.ensures))

pub loop-place-preserved : goal.loop-place-preserved
loop-place-preserved c =
    let ms = c.args.marks.now in
    let m = c.index-marks-place.result in
    let f : List Mark → Bool = held_from c.args.node c.args.wanted.now false in
    let rest : List Mark = take (c.loop-place.place - 1) ms in
    apart f ms c.loop-place.place m (f rest) c.loop-place-test.true c.loop-place.auto.place c.index-marks-place.is c.loop-place.invariant
    (held-last c.args.node c.args.wanted.now rest m ∙ ap (λ (o : Option Bool). unwrap_or o (f rest)) (sym c.in_default.ensures))
