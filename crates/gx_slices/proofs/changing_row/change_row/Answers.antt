use Rattle.std.proofs.Common.{◌∙◌, List, Option, Result, subst, sym}
use Rattle.std.specs.Prelude.{unwrap_or}
use Rattle.gx_tree.specs.declared.value.Value.{Value}
use Rattle.gx_rows.specs.declared.status.LocalStatus.TheVariants.{Running}
use Rattle.gx_meaning.specs.declared.fault.ArithFault.{ArithFault}
use Rattle.gx_rules.specs.Changes as rule
use Rattle.gx_slices.specs.Changing.{Came, change_in}
use Rattle.gx_slices.specs.Store.{status_of}
use Rattle.gx_slices.specs.declared.changing_row.RowEnd.TheVariants.{Written}
use Rattle.gx_slices.proofs.RightChanges.{right-made, settable-row}
use Rattle.gx_slices.proofs.RowSteps.{Came-writes, own-free-at}
use Rattle.gx_slices.proofs.changing_row.change_row.Goals as goal

pub new_image-requires : goal.new_image-requires
new_image-requires g c =
    let k = c.args.change.now in
    let w = k.writer in
    let may = c.requires.0 in
    settable-row g.stage.found.tables w.gxid w.cid w.table k.set k.cond may.right c.args.old c.requires.1.1.1

pub write_row-requires-clause-free : goal.write_row-requires-clause-free
write_row-requires-clause-free g c = own-free-at g.stage c.args.change.now.writer.gxid c.args.held.now c.args.entry.now c.args.marks.now.items c.requires.1.0

pub returns-in_ok-write_row-in-Ok-clause-came : goal.returns-in_ok-write_row-in-Ok-clause-came
returns-in_ok-write_row-in-Ok-clause-came g c =
    let k = c.args.change.now in
    let w = k.writer in
    let may = c.requires.0 in
    let old = c.args.old in
    let made = sym c.in_ok-image.ensures ∙ c.in-Ok.is in
    let now = c.write_row.new in
    let right = right-made g.stage.found.tables w.gxid w.cid w.table k.set k.cond may.right old c.requires.1.1.1 c.in-Ok.image made in
    subst (λ (r : Result (Option (List Value)) ArithFault). Came g.stage w.gxid now.held now.entry now.marks.items (rule.writes g.stage.moved w.gxid (change_in k) c.args.rid old r) Written)
    (sym made)
    (Came-writes g.stage w.gxid c.args.held.now c.args.entry.now c.args.marks.now.items c.requires.1.0 c.requires.1.1.0 (change_in k) w.node c.args.rid c.in-Ok.image now.held now.entry now.marks.items c.in_ok-write_row-in-Ok.ensures may.node right)

pub returns-in_ok-write_row-in-Ok-clause-written : goal.returns-in_ok-write_row-in-Ok-clause-written
returns-in_ok-write_row-in-Ok-clause-written g c =
    record { status = unwrap_or (status_of c.args.held.now.store c.args.change.now.writer.gxid) Running; image = c.in-Ok.image; is = c.in_ok-write_row-in-Ok.ensures.written }
