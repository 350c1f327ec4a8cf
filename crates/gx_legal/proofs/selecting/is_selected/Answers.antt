use Rattle.std.proofs.Common.{◌∙◌, sym}
use Rattle.gx_legal.specs.Places.{is_snapshot}
use Rattle.gx_legal.specs.Selected.{is_chosen_at}
use Rattle.gx_legal.proofs.Backward.{failed-first, failed-second, found-there}
use Rattle.gx_legal.proofs.selecting.is_selected.Goals as goal
use Rattle.gx_legal.proofs.selecting.is_selected.Goals.{else-is_snapshot-via-then-is_snapshot+in_ok-is_chosen_at+else-branch, else-is_snapshot-via-else-is_snapshot}

pub returns-then-branch : goal.returns-then-branch
returns-then-branch c =
    let k = c.args.choice.command in
    found-there (is_snapshot k.level k.gxid k.cid) (is_chosen_at c.args.marks.now k.gxid k.cid c.args.choice.table c.args.choice.cond.now c.args.choice.rid) c.args.marks.now c.loop-place.place c.index-marks-place.result
    c.loop-place-test.true c.loop-place.auto.place c.index-marks-place.is c.loop-place.invariant (sym c.is_snapshot.ensures ∙ c.if-is_snapshot.true) (sym c.in_ok-is_chosen_at.ensures ∙ c.if-branch.true)

pub loop-place-preserved : goal.loop-place-preserved
loop-place-preserved c =
    let k = c.args.choice.command in
    elim c.else-is_snapshot.branch [
      | else-is_snapshot-via-then-is_snapshot+in_ok-is_chosen_at+else-branch w ↦ failed-second (is_snapshot k.level k.gxid k.cid) (is_chosen_at c.args.marks.now k.gxid k.cid c.args.choice.table c.args.choice.cond.now c.args.choice.rid) c.args.marks.now c.loop-place.place c.index-marks-place.result
          c.loop-place-test.true c.loop-place.auto.place c.index-marks-place.is c.loop-place.invariant (sym w.in_ok-is_chosen_at.ensures ∙ w.if-branch.false)
      | else-is_snapshot-via-else-is_snapshot w ↦ failed-first (is_snapshot k.level k.gxid k.cid) (is_chosen_at c.args.marks.now k.gxid k.cid c.args.choice.table c.args.choice.cond.now c.args.choice.rid) c.args.marks.now c.loop-place.place c.index-marks-place.result
          c.loop-place-test.true c.loop-place.auto.place c.index-marks-place.is c.loop-place.invariant (sym c.is_snapshot.ensures ∙ w.if-is_snapshot.false)
    ]
