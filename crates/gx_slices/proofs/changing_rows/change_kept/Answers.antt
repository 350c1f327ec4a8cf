use Rattle.std.proofs.Common.{◌∙◌, List, ap, map, refl, subst, sym}
use Rattle.gx_ids.specs.declared.rid.Rid.{Rid}
use Rattle.gx_store.specs.declared.mark.Mark.{Mark}
use Rattle.gx_tree.specs.declared.row.KeyedRow.{KeyedRow}
use Rattle.gx_rules.specs.Changes.{goes_through, selected, shown_to}
use Rattle.gx_rules.specs.Slices.{Moved}
use Rattle.gx_slices.specs.Changing.{IsAt, change_in}
use Rattle.gx_slices.proofs.Ending.{few-rows}
use Rattle.gx_slices.proofs.Progressing.{HasProgressed-if}
use Rattle.gx_slices.proofs.changing_rows.change_kept.Goals as goal

pub go_from-requires : goal.go_from-requires
go_from-requires g c =
    let k = c.args.change in
    let at = subst (λ (ms : List Mark). IsAt g.stage k.writer.gxid c.args.held.now c.args.entry ms) (sym c.new-marks.ensures.items) c.requires.1.1.0 in
    let room = few-rows c.in-Ok.rids c.as_slice-list.result.now c.as_slice-list.ensures.value in
    (c.requires.0, (c.requires.1.0, (at, (c.requires.1.1.1.0, (room, refl)))))

pub returns-in-Ok : goal.returns-in-Ok
returns-in-Ok g c =
    let k = c.args.change in
    let gxid = k.writer.gxid in
    let chosen = selected k.cond (shown_to g.stage.found.start gxid (change_in k)) in
    let all = c.as_slice-list.ensures.value ∙ c.in-Ok.ensures ∙ ap (λ (rows : List KeyedRow). map (λ row. row.rid) rows) c.as_slice-selected.ensures.value ∙ c.requires.1.1.1.1.1 in
    HasProgressed-if g.stage.found.tables c.go_from.new.held gxid c.go_from.result _ _
    (ap (λ (rids : List Rid). goes_through gxid (change_in k) rids g.stage.moved 0) all ∙ ap (λ (m : Moved). goes_through gxid (change_in k) chosen m 0) c.requires.1.1.1.1.0)
    c.go_from.ensures
