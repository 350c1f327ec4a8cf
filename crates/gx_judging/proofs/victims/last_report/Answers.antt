use Rattle.std.proofs.Common.{◌∙◌, ◌-◌, None, Option, List, ap, take}
use Rattle.gx_store.specs.declared.mark.Mark.{Mark}
use Rattle.gx_store.specs.Rounds.{last_report}
use Rattle.gx_waits.specs.declared.graph.LocalGraph.{LocalGraph}
use Rattle.gx_legal.proofs.Backward.{apart}
use Rattle.gx_judging.proofs.Naming.{report-last}
use Rattle.gx_judging.proofs.victims.last_report.Goals as goal

pub returns-in-Some : goal.returns-in-Some
returns-in-Some c =
    let ms = c.args.marks.now in
    let m = c.index-marks-place.result in
    let f : List Mark → Option LocalGraph = last_report c.args.node c.args.round None in
    let rest : List Mark = take (c.loop-place.place - 1) ms in
    apart f ms c.loop-place.place m _ c.loop-place-test.true c.loop-place.auto.place c.index-marks-place.is c.loop-place.invariant
    (report-last c.args.node c.args.round rest m ∙ c.in-Some.ensures (f rest))

pub loop-place-preserved : goal.loop-place-preserved
loop-place-preserved c =
    let ms = c.args.marks.now in
    let m = c.index-marks-place.result in
    let f : List Mark → Option LocalGraph = last_report c.args.node c.args.round None in
    let rest : List Mark = take (c.loop-place.place - 1) ms in
    apart f ms c.loop-place.place m (f rest) c.loop-place-test.true c.loop-place.auto.place c.index-marks-place.is c.loop-place.invariant
    (report-last c.args.node c.args.round rest m ∙ c.in_default.ensures (f rest))
