use Rattle.std.proofs.Common.{◌∙◌, ◌∷◌, List, ap, refl}
use Rattle.gx_ids.specs.declared.rid.Rid.{Rid}
use Rattle.gx_rules.specs.Changes.{goes_through}
use Rattle.gx_slices.specs.Changing.{change_in}
use Rattle.gx_slices.proofs.Ending.{room-for}
use Rattle.gx_slices.proofs.Progressing.{HasProgressed-if}
use Rattle.gx_slices.proofs.Starting.{IsAt-start, IsFree-start, IsTaken-start}
use Rattle.gx_slices.proofs.changing_rows.go_on_at.Goals as goal

pub go_from-requires : goal.go_from-requires
go_from-requires g c =
    let held = c.args.held.now in
    let gxid = c.args.change.writer.gxid in
    let entries = c.take_entry-entry.new.entries in
    let entry = c.take_entry-entry.result in
    let took = c.take_entry-entry.ensures in
    let was = c.requires.0 in
    let is = c.requires.1.0 in
    let may = c.requires.1.1.0 in
    let open_here = c.requires.1.1.1.0 in
    let free = c.requires.1.1.1.1.0 in
    let marks = c.args.marks.items in
    let rids = c.as_slice-list.ensures.value ∙ c.in-Ok.ensures ∙ ap (λ (rs : List Rid). c.args.row ∷ rs) c.as_slice-left.ensures in
    let room = room-for c.args.count c.args.row c.args.rows c.as_slice-list.result.now rids c.requires.1.1.1.1.1 in (
      IsTaken-start g.found held entries entry gxid was is (record { seg = g.found.start; marks = marks }) free took.others,
      (may, (IsAt-start g.found held entries entry gxid was is marks may.alive open_here took.local took.kept, (IsFree-start g.found held entries entry gxid was is marks free, (room, refl)))),
    )

pub returns-in-Ok : goal.returns-in-Ok
returns-in-Ok g c =
    let k = c.args.change in
    let gxid = k.writer.gxid in
    let rids = c.as_slice-list.ensures.value ∙ c.in-Ok.ensures ∙ ap (λ (rs : List Rid). c.args.row ∷ rs) c.as_slice-left.ensures in
    HasProgressed-if g.found.tables c.go_from.new.held gxid c.go_from.result _ _
    (ap (λ (rs : List Rid). goes_through gxid (change_in k) rs (record { seg = g.found.start; marks = c.args.marks.items }) c.args.count) rids)
    c.go_from.ensures
