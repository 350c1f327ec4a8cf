use Rattle.gx_slices.proofs.changing_rows.fail_on.Given as goal
use Rattle.gx_rules.specs.Slices.{answers}

abbrev pub ghost-answer : goal.ghost-answer
ghost-answer g a = record { stage = record g.stage { moved = record g.stage.moved { marks = a.marks.items } }; turn = answers g.stage.found.start a.change.now.writer.gxid a.change.now.writer.cid a.marks.items a.reply }
