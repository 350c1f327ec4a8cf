use Rattle.std.proofs.Common.{◌∙◌, refl, sym, ap, subst, Bool, Some}
use Rattle.std.proofs.lemmas.Result.{IfOk-weaker}
use Rattle.gx_rules.specs.Segments.{Local}
use Rattle.gx_rules.specs.Slices.{first_fault, has_written, reads}
use Rattle.gx_rules.specs.Shown.{shown}
use Rattle.gx_slices.specs.Picked.{AreEnough, select_marks, select_reply}
use Rattle.gx_slices.specs.Ran.{HasRun}
use Rattle.gx_slices.specs.declared.held.Held.{Held}
use Rattle.gx_slices.specs.declared.running.Ran.{Ran}
use Rattle.gx_slices.proofs.Counting.{HasNoDead-open, HasNoneBelow-alive}
use Rattle.gx_slices.proofs.Closing.{IsApart-taken, IsHeld-answered, IsStored-held, no-wait}
use Rattle.gx_slices.proofs.Enough.{select_reply-enough}
use Rattle.gx_slices.proofs.Looked.{enough-shown}
use Rattle.gx_slices.proofs.Told.{IsSelected-picked}
use Rattle.gx_slices.proofs.Rightness.{right-shown, typed-select}
use Rattle.gx_slices.proofs.Turning.{HasRun-selects}
use Rattle.gx_slices.proofs.selecting.select_by.Goals as goal

pub pick-requires : goal.pick-requires
pick-requires g c =
    let is = c.requires.0 in
    let may = c.requires.1 in
    let query = c.args.query.now in
    let typed = typed-select c.args.tables.now c.args.gxid c.args.cid query may.right (shown g.s c.args.snapshot.now c.args.gxid c.args.cid query.table) (right-shown c.args.tables.now query.table g.s c.args.snapshot.now c.args.gxid c.args.cid is.typed) in
    (enough-shown c.args.held.now.store g.s (IsStored-held c.args.tables.now c.args.held.now g.s is) c.args.snapshot.now c.args.gxid c.args.cid (HasNoDead-open g.s c.args.gxid c.args.cid may.open_here) (HasNoneBelow-alive g.s c.args.gxid c.args.cid may.alive) query.table query.cond c.in_ok-rows.rows.items c.in_ok-rows.ensures.rising c.in_ok-rows.ensures.images typed).typed

pub returns-in-Ok : goal.returns-in-Ok
returns-in-Ok g c =
    let held = c.args.held.now in
    let is = c.requires.0 in
    let may = c.requires.1 in
    let query = c.args.query.now in
    let entry = c.take_entry-entry.result in
    let took = c.take_entry-entry.ensures in
    let mid : Held = record held { entries = c.take_entry-entry.new.entries } in
    let all = shown g.s c.args.snapshot.now c.args.gxid c.args.cid query.table in
    let typed = typed-select c.args.tables.now c.args.gxid c.args.cid query may.right all (right-shown c.args.tables.now query.table g.s c.args.snapshot.now c.args.gxid c.args.cid is.typed) in
    let rows = c.in_ok-rows.rows.items in
    let enough : AreEnough query.cond all rows = enough-shown held.store g.s (IsStored-held c.args.tables.now held g.s is) c.args.snapshot.now c.args.gxid c.args.cid (HasNoDead-open g.s c.args.gxid c.args.cid may.open_here) (HasNoneBelow-alive g.s c.args.gxid c.args.cid may.alive) query.table query.cond rows c.in_ok-rows.ensures.rising c.in_ok-rows.ensures.images typed in
    let apart = IsApart-taken c.args.tables.now held c.take_entry-entry.new.entries g.s c.args.gxid entry is may.alive may.open_here took.local took.kept in
    let chosen = IsSelected-picked c.args.gxid c.args.cid c.has_written-wrote.result query rows c.in_ok-picked.picked c.in-Ok.ran c.in_ok-picked.ensures c.in-Ok.ensures in
    let wrote = c.has_written-wrote.ensures ∙ ap (λ (l : Local). has_written l.phase) apart.local in
    let turn = reads g.s c.args.gxid c.args.cid query (Some c.args.snapshot.now) in
    IfOk-weaker c.keep_ran.result _ _
    (λ (kept : Ran) told.
    subst (λ (ran : Ran). HasRun c.args.tables.now c.keep_ran.new.held c.args.gxid ran turn) (sym told.0)
    (HasRun-selects c.args.tables.now c.keep_ran.new.held c.args.gxid c.args.cid g.s query all (first_fault query.cond all) c.in-Ok.ran
    (IsHeld-answered c.args.tables.now held mid mid c.keep_ran.new.held g.s g.s c.args.gxid c.args.cid entry is may.new apart took.others refl is.typed c.in-Ok.ran.reply may.free (no-wait c.args.tables.now held g.s c.args.gxid is may.free) told.1)
    (chosen.marks ∙ ap (select_marks c.args.gxid c.args.cid) enough.faults)
    (chosen.reply
    ∙ ap (select_reply c.args.cid c.has_written-wrote.result query rows) enough.faults
    ∙ select_reply-enough all rows c.args.cid c.has_written-wrote.result query (first_fault query.cond all) enough
    ∙ ap (λ (b : Bool). select_reply c.args.cid b query all (first_fault query.cond all)) wrote)))
    c.keep_ran.ensures
