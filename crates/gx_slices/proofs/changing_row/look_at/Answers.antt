use Rattle.std.proofs.Common.{IfOk, None, Option, subst, sym}
use Rattle.std.proofs.lemmas.Result.{IfOk-weaker}
use Rattle.gx_rules.specs.Changes.{at_current}
use Rattle.gx_rules.specs.Segments.{Version}
use Rattle.gx_rules.specs.Slices.{version}
use Rattle.gx_slices.specs.Changing.{Came, change_in}
use Rattle.gx_slices.proofs.RowSteps.{Came-skips, no-current, one-current}
use Rattle.gx_slices.proofs.changing_row.look_at.Goals as goal

pub come_to-requires : goal.come_to-requires
come_to-requires g c =
    let w = c.args.change.now.writer in
    let is = one-current g.stage w.gxid c.args.held.now c.args.entry.now c.args.marks.now.items c.requires.1.0 w.table c.args.rid c.in_ok-newest.field-0 c.in-Some.newest (version w.gxid w.cid w.table c.args.rid None) c.in_ok-newest.ensures c.in-Some.is in
    (c.requires.0, (c.requires.1.0, (c.requires.1.1.0, (is.newest, is.current))))

pub returns-in-Some-clause-came : goal.returns-in-Some-clause-came
returns-in-Some-clause-came g c =
    let k = c.args.change.now in
    let w = k.writer in
    let is = one-current g.stage w.gxid c.args.held.now c.args.entry.now c.args.marks.now.items c.requires.1.0 w.table c.args.rid c.in_ok-newest.field-0 c.in-Some.newest (version w.gxid w.cid w.table c.args.rid None) c.in_ok-newest.ensures c.in-Some.is in
    subst (λ (o : Option Version). IfOk c.come_to.result (λ end. Came g.stage w.gxid c.come_to.new.held c.come_to.new.entry c.come_to.new.marks.items (at_current g.stage.moved w.gxid (change_in k) c.args.rid o) end))
    (sym is.current) c.come_to.ensures.came

pub returns-in-None-clause-came : goal.returns-in-None-clause-came
returns-in-None-clause-came g c =
    let k = c.args.change.now in
    let w = k.writer in
    let held = c.args.held.now in
    let entry = c.args.entry.now in
    let marks = c.args.marks.now.items in
    let none = no-current g.stage w.gxid held entry marks c.requires.1.0 w.table c.args.rid c.in_ok-newest.field-0 c.in_ok-newest.ensures c.in-None.is in
    subst (λ (o : Option Version). IfOk c.skip.result (λ end. Came g.stage w.gxid held entry c.skip.new.marks.items (at_current g.stage.moved w.gxid (change_in k) c.args.rid o) end))
    (sym none)
    (IfOk-weaker c.skip.result _ _ (λ end is. Came-skips g.stage w.gxid held entry marks c.requires.1.0 c.requires.1.1.0 (change_in k) c.args.rid c.skip.new.marks.items end is.0 is.1) c.skip.ensures)
