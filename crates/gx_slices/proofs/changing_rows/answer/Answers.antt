use Rattle.gx_slices.proofs.Ending.{HasProgressed-answered}
use Rattle.gx_slices.proofs.changing_rows.answer.Goals as goal

pub returns-in-Ok : goal.returns-in-Ok
returns-in-Ok g c =
    HasProgressed-answered g.ending.stage c.args.change.now c.args.held.now c.keep_answer.new.held c.args.entry c.args.marks.items g.ending.turn c.requires.0 c.requires.1.0 c.args.reply c.requires.1.1 c.in-Ok.ensures c.from_vec.result c.from_vec.ensures
