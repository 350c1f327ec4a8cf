use Rattle.std.proofs.Common.{◌≡◌, ◌∙◌, ◌==◌, true, sym, arith}
use Rattle.std.proofs.lemmas.Bool.Decides.{nat_tests}
use Rattle.gx_store.specs.Marks.{write_count}
use Rattle.gx_legal.specs.Places.{is_snapshot}
use Rattle.gx_legal.specs.RowsDone.{is_done_at}
use Rattle.gx_legal.proofs.Backward.{both, failed-first, failed-second, found-there}
use Rattle.gx_legal.proofs.changed.has_changed.Goals as goal
use Rattle.gx_legal.proofs.changed.has_changed.Goals.{else-is_snapshot-via-then-is_snapshot+in_ok-is_done_at+else-branch, else-is_snapshot-via-else-is_snapshot}

pub returns-then-branch : goal.returns-then-branch
returns-then-branch c =
    let ms = c.args.marks.now in
    let k = c.args.command in
    let counted : (c.args.count == write_count ms k.gxid k.cid) ≡ true = grind (arith, nat_tests, c.if-count-own_count.false, c.own_count.ensures) in
    sym (both (c.args.count == write_count ms k.gxid k.cid) _ counted (sym (found-there (is_snapshot k.level k.gxid k.cid) (is_done_at ms k.gxid k.cid c.args.table c.args.cond.now) ms c.loop-place.place c.index-marks-place.result
    c.loop-place-test.true c.loop-place.auto.place c.index-marks-place.is c.loop-place.invariant (sym c.is_snapshot.ensures ∙ c.if-is_snapshot.true) (sym c.in_ok-is_done_at.ensures ∙ c.if-branch.true))))

pub loop-place-preserved : goal.loop-place-preserved
loop-place-preserved c =
    let k = c.args.command in
    elim c.else-is_snapshot.branch [
      | else-is_snapshot-via-then-is_snapshot+in_ok-is_done_at+else-branch w ↦ failed-second (is_snapshot k.level k.gxid k.cid) (is_done_at c.args.marks.now k.gxid k.cid c.args.table c.args.cond.now) c.args.marks.now c.loop-place.place c.index-marks-place.result
          c.loop-place-test.true c.loop-place.auto.place c.index-marks-place.is c.loop-place.invariant (sym w.in_ok-is_done_at.ensures ∙ w.if-branch.false)
      | else-is_snapshot-via-else-is_snapshot w ↦ failed-first (is_snapshot k.level k.gxid k.cid) (is_done_at c.args.marks.now k.gxid k.cid c.args.table c.args.cond.now) c.args.marks.now c.loop-place.place c.index-marks-place.result
          c.loop-place-test.true c.loop-place.auto.place c.index-marks-place.is c.loop-place.invariant (sym c.is_snapshot.ensures ∙ w.if-is_snapshot.false)
    ]
