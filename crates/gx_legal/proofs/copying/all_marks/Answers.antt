use Rattle.std.proofs.Common.{◌+◌, ◌∙◌, ◌++◌, List, ap, append_assoc, drop, sym}
use Rattle.gx_store.specs.declared.mark.Mark.{Mark}
use Rattle.gx_store.specs.declared.run.Step.{Step}
use Rattle.gx_store.specs.Points.{marks_in}
use Rattle.gx_legal.proofs.Along.{at-item}
use Rattle.gx_legal.proofs.copying.all_marks.Goals as goal

pub loop-step-preserved : goal.loop-step-preserved
loop-step-preserved c =
    let ss = c.args.steps.now in
    let k = c.loop-step.step-index in
    let step = c.step-item.result in
    let done : List Mark = c.loop-step.all.items in
    ap (λ (all : List Mark). all ++ marks_in (drop (k + 1) ss)) (c.in_ok-push_marks.ensures ∙ ap (λ (ms : List Mark). done ++ ms) c.as_slice.ensures) ∙ append_assoc done step.marks (marks_in (drop (k + 1) ss))
    ∙ sym (ap (λ (rest : List Step). done ++ marks_in rest) (at-item ss k step c.loop-step-test.true c.step-item.is)) ∙ c.loop-step.invariant
