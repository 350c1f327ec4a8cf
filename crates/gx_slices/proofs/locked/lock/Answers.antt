use Rattle.std.proofs.Common.{◌∙◌, Bool, [], refl, ap}
use Rattle.gx_tree.specs.declared.part.Part.{Part}
use Rattle.gx_tree.specs.declared.part.Part.TheVariants.{Rows}
use Rattle.gx_msg.specs.declared.reply.Reply.{Reply}
use Rattle.gx_msg.specs.declared.reply.Reply.TheVariants.{Done}
use Rattle.gx_rules.specs.Segments.{Local, local_of}
use Rattle.gx_rules.specs.Slices.{has_written}
use Rattle.gx_slices.specs.declared.held.Held.{Held}
use Rattle.gx_slices.specs.declared.running.Ran.{Ran}
use Rattle.gx_slices.proofs.Closing.{IsApart-taken, IsHeld-answered, no-wait}
use Rattle.gx_slices.proofs.Turning.{HasRun-answers}
use Rattle.gx_slices.proofs.locked.lock.Goals as goal

pub returns : goal.returns
returns g c =
    let tables = c.args.tables.now in
    let held = c.args.held.now in
    let gxid = c.args.gxid in
    let cid = c.args.cid in
    let is = c.requires.0 in
    let alive = c.requires.1.0 in
    let open_here = c.requires.1.1.0 in
    let free = c.requires.1.1.1.0 in
    let entry = c.take_entry-entry.result in
    let took = c.take_entry-entry.ensures in
    let new = c.keep_answer.new.held in
    let mid : Held = record held { entries = c.take_entry-entry.new.entries } in
    let apart = IsApart-taken tables held c.take_entry-entry.new.entries g.s gxid entry is alive open_here took.local took.kept in
    let reply : Reply = Done cid c.has_written.result 0 c.in_ok-part.part in
    let back = IsHeld-answered tables held mid mid new g.s g.s gxid cid entry is c.requires.1.1.1.1 apart took.others refl is.typed reply free (no-wait tables held g.s gxid is free) c.in_ok-keep_answer.ensures in
    let ran : Ran = record { marks = c.new-marks.result; reply = reply } in
    let wrote = c.has_written.ensures ∙ ap (λ (l : Local). has_written l.phase) apart.local in
    HasRun-answers tables new gxid cid g.s ran [] (Done cid (has_written (local_of g.s gxid).phase) 0 (Rows [])) back c.new-marks.ensures
    (ap (λ (b : Bool). Done cid b 0 c.in_ok-part.part) wrote
    ∙ ap (λ (p : Part). Done cid (has_written (local_of g.s gxid).phase) 0 p) c.in_ok-part.ensures)
