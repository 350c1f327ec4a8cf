use Rattle.std.proofs.Common.{◌∙◌, ap, sym}
use Rattle.std.proofs.lemmas.List.{get_or_default}
use Rattle.gx_detect.specs.Reduce.{is_left}
use Rattle.gx_detect.specs.Tally.{count_at}
use Rattle.gx_detect.proofs.Gathered.{kept, passed_over}
use Rattle.gx_detect.proofs.edges.left_in_graph.Goals as goal
use Rattle.gx_detect.proofs.edges.left_in_graph.Goals.{then-leaves+in_ok-push, else-leaves}

pub loop-edge-preserved : goal.loop-edge-preserved
loop-edge-preserved c =
    let l = c.loop-edge in
    elim c.if-leaves.branch [
      | then-leaves+in_ok-push w ↦ kept (λ edge. is_left (count_at c.args.tally.now) (record { node = c.args.graph.now.node; edge = edge })) _ l.edge-index _ c.loop-edge-test.true (get_or_default _ _ _ _ c.loop-edge-test.true) (sym w.if-leaves.ensures)
          l.kept.items c.if-leaves.kept.items l.invariant (ap (λ v. v.items) w.kept-is ∙ w.in_ok-push.ensures.items)
      | else-leaves w ↦ ap (λ v. v.items) w.kept-is ∙ l.invariant
          ∙ passed_over (λ edge. is_left (count_at c.args.tally.now) (record { node = c.args.graph.now.node; edge = edge })) _ l.edge-index _ c.loop-edge-test.true (get_or_default _ _ _ _ c.loop-edge-test.true) (sym w.if-leaves.ensures)
    ]
