use Rattle.std.proofs.Common.{List, subst}
use Rattle.gx_store.specs.declared.run.Step.{Step}
use Rattle.std.proofs.Common.{take}
use Rattle.gx_ordered.specs.Links.{AreFiled, IsProgress}
use Rattle.gx_ordered.proofs.Filing.{filed-last, none-filed}
use Rattle.gx_ordered.proofs.Following.{none-progress, ordered-next, step-next}
use Rattle.gx_ordered.proofs.steps.are_ordered.Goals as goal

pub loop-number-init : goal.loop-number-init
loop-number-init c =
    let new = c.in_ok-progress in
    record { progress = none-progress new.progress new.ensures.clocks new.ensures.to new.ensures.from; filed = none-filed; ordered = (λ h. h, λ h. h) }

pub loop-number-preserved : goal.loop-number-preserved
loop-number-preserved c =
    let ss = c.args.steps.now in
    let k = c.loop-number.number in
    let s = c.index-steps-number.result in
    let inside = c.loop-number-test.true in
    let is = c.index-steps-number.is in
    let ordered = c.in_ok-may_follow.ensures.is.0 c.if-not-branch.false in
    let next = step-next c.args.script.now ss k s inside is in
    record {
      progress = subst (λ (front : List Step). IsProgress front c.may_follow.new.progress) next (c.in_ok-may_follow.ensures.progress c.if-not-branch.false);
      filed = subst AreFiled next (filed-last (take k ss) s c.loop-number.invariant.filed ordered.numbers);
      ordered = ordered-next c.args.script.now ss k s inside is ordered c.loop-number.invariant.ordered;
    }
