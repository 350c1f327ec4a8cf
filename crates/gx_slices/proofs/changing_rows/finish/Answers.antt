use Rattle.gx_slices.proofs.Ending.{IsAnswered-done}
use Rattle.gx_slices.proofs.changing_rows.finish.Goals as goal

pub answer-requires : goal.answer-requires
answer-requires g c =
    (c.requires.0, (c.requires.1.0, IsAnswered-done g.ending.stage c.args.change.now c.args.held.now c.args.held.now c.args.entry c.args.marks.items g.ending.turn c.requires.0 c.requires.1.0 c.args.count c.in-Ok.reply c.requires.1.1 c.in-Ok.ensures))
