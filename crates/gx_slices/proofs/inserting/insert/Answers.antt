use Rattle.std.proofs.Common.{◌∙◌, ◌++◌, Bool, [], length, refl, ap}
use Rattle.gx_tree.specs.declared.part.Part.{Part}
use Rattle.gx_tree.specs.declared.part.Part.TheVariants.{Rows}
use Rattle.gx_msg.specs.declared.reply.Reply.{Reply}
use Rattle.gx_msg.specs.declared.reply.Reply.TheVariants.{Done}
use Rattle.gx_rules.specs.Segments.{Local, local_of}
use Rattle.gx_rules.specs.Slices.{has_written, inserted}
use Rattle.gx_slices.specs.declared.held.Held.{Held}
use Rattle.gx_slices.specs.declared.running.Ran.{Ran}
use Rattle.gx_slices.proofs.Closing.{IsApart-taken, IsHeld-answered, no-wait}
use Rattle.gx_slices.proofs.Rightness.{right-insert, typed-inserted}
use Rattle.gx_slices.proofs.Turning.{HasRun-answers}
use Rattle.gx_slices.proofs.inserting.insert.Goals as goal

pub insert_rows-requires : goal.insert_rows-requires
insert_rows-requires g c =
    let tables = c.args.tables.now in
    let held = c.args.held.now in
    let gxid = c.args.writer.gxid in
    let is = c.requires.0 in
    let alive = c.requires.1.0 in
    let took = c.take_entry-entry.ensures in (
      c.requires.1.1.1.1.1.0,
      (alive, (IsApart-taken tables held c.take_entry-entry.new.entries g.s gxid c.take_entry-entry.result is alive c.requires.1.1.0 took.local took.kept, no-wait tables held g.s gxid is c.requires.1.1.1.0)),
    )

pub returns-in_ok-keep_answer-in-Ok : goal.returns-in_ok-keep_answer-in-Ok
returns-in_ok-keep_answer-in-Ok g c =
    let tables = c.args.tables.now in
    let held = c.args.held.now in
    let gxid = c.args.writer.gxid in
    let cid = c.args.writer.cid in
    let table = c.args.writer.table in
    let rows = c.args.rows.now in
    let before = c.args.marks.items in
    let is = c.requires.0 in
    let alive = c.requires.1.0 in
    let free = c.requires.1.1.1.0 in
    let right = c.requires.1.1.1.1.0 in
    let first : Held = record held { entries = c.take_entry-entry.new.entries } in
    let mid = c.insert_rows.new.held in
    let entry = c.insert_rows.new.entry in
    let new = c.keep_answer.new.held in
    let m = inserted g.s gxid cid table rows in
    let put = c.in-Ok.ensures in
    let typed = typed-inserted tables gxid cid table g.s rows is.typed (right-insert tables gxid cid table rows right) in
    let reply : Reply = Done cid c.has_written.result (length rows) c.in_ok-part.part in
    let back = IsHeld-answered tables held first mid new g.s m.seg gxid cid entry is c.requires.1.1.1.1.1.1 put.apart c.take_entry-entry.ensures.others refl typed reply free put.free c.in_ok-keep_answer-in-Ok.ensures in
    let ran : Ran = record { marks = c.from_vec.result; reply = reply } in
    let wrote = c.has_written.ensures ∙ ap (λ (l : Local). has_written l.phase) put.apart.local in
    HasRun-answers tables new gxid cid m.seg ran (before ++ m.marks) (Done cid (has_written (local_of m.seg gxid).phase) (length rows) (Rows [])) back
    (c.from_vec.ensures ∙ put.told)
    (ap (λ (b : Bool). Done cid b (length rows) c.in_ok-part.part) wrote
    ∙ ap (λ (p : Part). Done cid (has_written (local_of m.seg gxid).phase) (length rows) p) c.in_ok-part.ensures)
