use Rattle.std.proofs.Common.{◌∙◌, map, ap, sym}
use Rattle.std.proofs.lemmas.List.{get_or_default}
use Rattle.gx_detect.specs.Core.{waiter_is_left}
use Rattle.gx_detect.specs.Tally.{count_at}
use Rattle.gx_detect.proofs.CoreNames.{waiter_number}
use Rattle.gx_detect.proofs.Gathered.{kept_mapped, passed_over}
use Rattle.gx_detect.proofs.names.waiters_left.Goals as goal
use Rattle.gx_detect.proofs.names.waiters_left.Goals.{then-is_waiter_left+in_ok-push, else-is_waiter_left}

pub loop-edge-preserved : goal.loop-edge-preserved
loop-edge-preserved c =
    let l = c.loop-edge in
    elim c.if-is_waiter_left.branch [
      | then-is_waiter_left+in_ok-push w ↦ kept_mapped (waiter_is_left (count_at c.args.tally.now)) c.args.edges.now l.edge-index _ c.loop-edge-test.true (get_or_default _ _ _ _ c.loop-edge-test.true) (sym w.if-is_waiter_left.ensures) waiter_number
          l.numbers.items c.if-is_waiter_left.numbers.items l.invariant (ap (λ v. v.items) w.numbers-is ∙ w.in_ok-push.ensures.items)
      | else-is_waiter_left w ↦ ap (λ v. v.items) w.numbers-is ∙ l.invariant
          ∙ ap (map waiter_number) (passed_over (waiter_is_left (count_at c.args.tally.now)) c.args.edges.now l.edge-index _ c.loop-edge-test.true (get_or_default _ _ _ _ c.loop-edge-test.true) (sym w.if-is_waiter_left.ensures))
    ]
