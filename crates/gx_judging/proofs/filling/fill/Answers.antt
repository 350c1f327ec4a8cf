use Rattle.std.proofs.Common.{◌∙◌, List, None, ap, map}
use Rattle.gx_legal.proofs.Oks.{if_ok}
use Rattle.gx_trace.specs.declared.seen.SeenStep.{SeenStep}
use Rattle.gx_judging.specs.Answers.{answer_at, cause_at}
use Rattle.gx_judging.specs.Filled.{cause_from, filled_step, marks_seen}
use Rattle.gx_judging.proofs.Grouping.{filled-is}
use Rattle.gx_judging.proofs.filling.fill.Goals as goal

pub returns : goal.returns
returns c =
    let answers = c.args.answers.now in
    let causes = c.in_ok-causes.causes in
    let same = c.as_slice-steps.ensures in
    if_ok c.filled_steps.result (λ steps h. filled-is answers causes c.args.seen.now steps.items c.requires
    (λ g. c.in_ok-causes.ensures g ∙ ap (λ (ss : List SeenStep). cause_from (answer_at answers) g None None (marks_seen ss)) same)
    (h ∙ ap (λ (ss : List SeenStep). map (filled_step (answer_at answers) (cause_at causes)) ss) same)) c.filled_steps.ensures
