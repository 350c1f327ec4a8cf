use Rattle.std.proofs.Common.{◌∙◌, ap, sym}
use Rattle.std.proofs.lemmas.List.{get_or_default}
use Rattle.gx_detect.specs.Reduce.{is_left}
use Rattle.gx_detect.specs.Tally.{count_at}
use Rattle.gx_detect.proofs.Gathered.{kept, passed_over}
use Rattle.gx_detect.proofs.edges.left_edges.Goals as goal
use Rattle.gx_detect.proofs.edges.left_edges.Goals.{then-leaves+in_ok-push, else-leaves}

pub loop-edge-preserved : goal.loop-edge-preserved
loop-edge-preserved c =
    let l = c.loop-edge in
    elim c.if-leaves.branch [
      | then-leaves+in_ok-push w ↦ kept (is_left (count_at c.args.tally.now)) c.args.edges.now l.edge-index _ c.loop-edge-test.true (get_or_default _ _ _ _ c.loop-edge-test.true) (sym w.if-leaves.ensures)
          l.left.items c.if-leaves.left.items l.invariant (ap (λ v. v.items) w.left-is ∙ w.in_ok-push.ensures.items)
      | else-leaves w ↦ ap (λ v. v.items) w.left-is ∙ l.invariant
          ∙ passed_over (is_left (count_at c.args.tally.now)) c.args.edges.now l.edge-index _ c.loop-edge-test.true (get_or_default _ _ _ _ c.loop-edge-test.true) (sym w.if-leaves.ensures)
    ]
