use Rattle.std.proofs.Common.{◌∙◌}
use Rattle.gx_slices.specs.Changing.{change_in}
use Rattle.gx_slices.proofs.Ending.{IsAnswered-marked, IsTaken-marked, answers-faulted}
use Rattle.gx_slices.proofs.Progressing.{HasProgressed-if}
use Rattle.gx_slices.proofs.changing_rows.fail_on.Goals as goal

pub answer-progress-requires : goal.answer-progress-requires
answer-progress-requires g c =
    let k = c.args.change in
    let gxid = k.writer.gxid in
    let at = c.requires.1.1.0 in
    let free = c.requires.1.1.1.0 in
    let start = c.requires.1.1.1.1 in
    let marks = c.into_vec.result.items in (
      IsTaken-marked g.stage (change_in k) gxid c.args.held.now c.args.entry at free start marks c.requires.0,
      (c.requires.1.0, IsAnswered-marked g.stage (change_in k) gxid c.args.held.now c.args.entry at free start marks c.in-Ok.ran.reply),
    )

pub returns-in-Ok : goal.returns-in-Ok
returns-in-Ok g c =
    let k = c.args.change in
    let w = k.writer in
    let is = c.in-Ok.ensures in
    HasProgressed-if g.stage.found.tables c.answer-progress.new.held w.gxid c.answer-progress.result _ _
    (answers-faulted g.stage.found.start w.gxid w.cid c.args.row c.args.fault c.into_vec.result.items c.in-Ok.ran.reply (c.into_vec.ensures ∙ is.marks) is.reply)
    c.answer-progress.ensures
