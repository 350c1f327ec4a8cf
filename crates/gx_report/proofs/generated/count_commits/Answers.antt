use Rattle.std.proofs.Common.{rules, arith, ◌∙◌, ap, count_by}
use Rattle.gx_report.specs.Summary as of
use Rattle.gx_report.proofs.Counting.{sum_by-next}
use Rattle.gx_report.proofs.generated.count_commits.Goals as goal

pub loop-place-preserved : goal.loop-place-preserved
loop-place-preserved c =
    (sum_by-next of.commits_in c.args.steps.now c.loop-place.place c.at.result _ _ (search rules) (c.at.ensures _) c.loop-place.invariant.0 (c.commits_in.ensures ∙ ap (count_by of.is_commit) c.marks.ensures), omega (arith, c.loop-place.invariant.1, c.commits_in.type_inv))
