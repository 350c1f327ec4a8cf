use Rattle.gx_slices.specs.Changing.{change_in}
use Rattle.gx_slices.proofs.RowSteps.{Came-waits, unsettled-newest}
use Rattle.gx_slices.proofs.changing_row.come_to.Goals as goal

pub returns-in_ok-wait_at-in-Some-clause-came : goal.returns-in_ok-wait_at-in-Some-clause-came
returns-in_ok-wait_at-in-Some-clause-came g c =
    let k = c.args.change.now in
    let stage = g.spot.stage in
    let gxid = k.writer.gxid in
    let held = c.args.held.now in
    let entry = c.args.entry.now in
    let marks = c.args.marks.now.items in
    let at = c.requires.1.0 in
    let is = unsettled-newest stage gxid held entry marks at k.writer.table c.args.rid g.spot.version c.requires.1.1.1.1 c.args.newest c.requires.1.1.1.0 c.in_ok-writer.field-0 c.in_ok-writer.ensures c.in-Some.writer c.in-Some.is in
    let may = c.requires.0 in
    Came-waits stage gxid held entry marks at c.requires.1.1.0 (change_in k) c.args.rid g.spot.version c.in-Some.writer k.writer.node c.wait_at.new.locks c.wait_at.new.marks.items is.unsettled is.writer may.node c.in_ok-wait_at-in-Some.ensures.locks c.in_ok-wait_at-in-Some.ensures.marks
