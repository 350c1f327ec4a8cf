use Rattle.std.proofs.Common.{IfOk, subst, sym}
use Rattle.gx_msg.specs.declared.reply.Cause.TheVariants.{Serialization}
use Rattle.gx_rules.specs.Changes.{RowTurn}
use Rattle.gx_slices.specs.declared.changing_row.RowEnd.TheVariants as end
use Rattle.gx_slices.specs.Changing.{Came, change_in}
use Rattle.gx_slices.proofs.RowSteps.{Came-overtaken, refused-turn, right-newest, shown-turn}
use Rattle.gx_slices.proofs.changing_row.process.Goals as goal

pub change_if_true-requires : goal.change_if_true-requires
change_if_true-requires g c =
    let k = c.args.change.now in
    let right = right-newest g.spot.stage k.writer.gxid c.args.held.now c.args.entry.now c.args.marks.now.items c.requires.1.0 k.writer.table c.args.rid g.spot.version c.requires.1.1.1.1 c.args.newest c.requires.1.1.1.0 in
    (c.requires.0, (c.requires.1.0, (c.requires.1.1.0, right)))

pub change_shown-requires : goal.change_shown-requires
change_shown-requires g c =
    let k = c.args.change.now in
    let right = right-newest g.spot.stage k.writer.gxid c.args.held.now c.args.entry.now c.args.marks.now.items c.requires.1.0 k.writer.table c.args.rid g.spot.version c.requires.1.1.1.1 c.args.newest c.requires.1.1.1.0 in
    (c.requires.0, (c.requires.1.0, (c.requires.1.1.0, right)))

pub returns-in-Some-clause-came : goal.returns-in-Some-clause-came
returns-in-Some-clause-came g c =
    let k = c.args.change.now in
    let stage = g.spot.stage in
    let gxid = k.writer.gxid in
    let held = c.args.held.now in
    let entry = c.args.entry.now in
    let marks = c.args.marks.now.items in
    let at = c.requires.1.0 in
    subst (λ (t : RowTurn). Came stage gxid held entry marks t (end.Failing (Serialization c.args.rid c.in-Some.writer)))
    (sym (refused-turn stage gxid held entry marks at k.writer.table c.args.rid g.spot.version c.requires.1.1.1.1 c.args.newest c.requires.1.1.1.0 (change_in k) c.in-RepeatableRead.is c.overtaker.result c.overtaker.ensures c.in-Some.writer c.in-Some.is))
    (Came-overtaken stage gxid held entry marks at c.requires.1.1.0 c.args.rid c.in-Some.writer)

pub returns-in-None-clause-came : goal.returns-in-None-clause-came
returns-in-None-clause-came g c =
    let k = c.args.change.now in
    let stage = g.spot.stage in
    let gxid = k.writer.gxid in
    subst (λ (t : RowTurn). IfOk c.change_shown.result (λ end. Came stage gxid c.change_shown.new.held c.change_shown.new.entry c.change_shown.new.marks.items t end))
    (sym (shown-turn stage gxid c.args.held.now c.args.entry.now c.args.marks.now.items c.requires.1.0 k.writer.table c.args.rid g.spot.version c.requires.1.1.1.1 c.args.newest c.requires.1.1.1.0 (change_in k) c.in-RepeatableRead.is c.overtaker.result c.overtaker.ensures c.in-None.is))
    c.change_shown.ensures.came
