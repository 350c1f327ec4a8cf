use Rattle.std.proofs.Common.{◌∙◌, ap, subst, sym}
use Rattle.gx_detect.specs.Reports.{IsSegment}
use Rattle.gx_rules.specs.Rounds.{with_report}
use Rattle.gx_waits.specs.declared.graph.LocalGraph.{LocalGraph}
use Rattle.gx_coord.specs.Books.{coord_of}
use Rattle.std.proofs.lemmas.Result.{IfOk-weaker}
use Rattle.gx_coord.proofs.Graphs.{report-round, report-segment, taken-victims}
use Rattle.gx_coord.proofs.rechecking.hear.Goals as goal

pub note_report-requires-clause-segment : goal.note_report-requires-clause-segment
note_report-requires-clause-segment c =
    subst (λ (x : LocalGraph). IsSegment c.args.coord.now.detector.segments x.node) (sym c.in_ok-copy.ensures)
    (report-segment (coord_of c.args.coord.now) c.args.from c.args.round c.args.graph.now c.args.coord.now.detector.segments (sym c.is_report.ensures ∙ c.if-is_report.true) c.requires)

pub note_report-requires-clause-last : goal.note_report-requires-clause-last
note_report-requires-clause-last c = report-round (coord_of c.args.coord.now) c.args.from c.args.round c.args.graph.now (sym c.is_report.ensures ∙ c.if-is_report.true)

pub returns-in_ok-all-clause-victims : goal.returns-in_ok-all-clause-victims
returns-in_ok-all-clause-victims c =
    IfOk-weaker c.recheck_once_all.result _ _
    (λ victims h. h ∙ taken-victims (coord_of c.args.coord.now) _ c.args.from c.args.round c.args.graph.now (sym c.is_report.ensures ∙ c.if-is_report.true) (c.in_ok-all.ensures.coord ∙ ap (with_report (coord_of c.args.coord.now)) c.in_ok-copy.ensures))
    c.recheck_once_all.ensures.victims
