use Rattle.std.proofs.Common.{List, subst}
use Rattle.gx_rules.specs.Changes.{looked_at}
use Rattle.gx_slices.specs.Changing.{change_in}
use Rattle.gx_slices.specs.Store.{Write, writes_of}
use Rattle.gx_slices.specs.Sweeping.{HasMore}
use Rattle.gx_slices.proofs.RowSteps.{Came-left}
use Rattle.gx_slices.proofs.AfterSweep.{IsAt-stored, IsStored-swept}
use Rattle.gx_slices.proofs.SweptTwice.{swept-twice}
use Rattle.gx_slices.proofs.changing_row.does_row.Goals as goal

pub look_at-requires : goal.look_at-requires
look_at-requires g c =
    let w = c.args.change.now.writer in
    let held = c.args.held.now in
    let at = c.requires.1.0 in
    let e = c.sweep.ensures in (
      c.requires.0,
      (IsAt-stored g.stage w.gxid held c.args.entry.now c.args.marks.now.items at c.sweep.new.self (IsStored-swept held.store c.sweep.new.self g.stage.moved.seg at.apart.stored w.table c.args.rid e.swept e.rows e.tables e.writers e.horizon), (c.requires.1.1, swept-twice held.store c.sweep.new.self w.table c.args.rid e.swept e.horizon)),
    )

pub returns-clause-came : goal.returns-clause-came
returns-clause-came g c =
    let k = c.args.change.now in
    let w = k.writer in
    let may = c.requires.0 in
    Came-left g.stage w.gxid c.args.rid c.look_at.new.held c.look_at.new.entry c.look_at.new.marks.items (looked_at g.stage.moved w.gxid (change_in k) c.args.rid) c.in_ok-end.end c.in_ok-end.ensures.came w.node may.node c.leave_row.new.locks c.leave_row.new.marks.items c.in_ok-leave_row.ensures.locks c.in_ok-leave_row.ensures.marks

pub returns-clause-swept : goal.returns-clause-swept
returns-clause-swept g c =
    let w = c.args.change.now.writer in
    subst (λ (ws : List Write). HasMore w.gxid w.cid c.in_ok-end.end ws (writes_of c.look_at.new.held.store w.table c.args.rid)) c.sweep.ensures.swept c.in_ok-end.ensures.written
