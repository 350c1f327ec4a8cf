use Rattle.std.proofs.Common.{List, Option, ap, map, subst, sym}
use Rattle.gx_tree.specs.declared.row.KeyedRow.{KeyedRow}
use Rattle.gx_meaning.specs.declared.fault.ArithFault.{ArithFault}
use Rattle.gx_rules.specs.Changes.{shown_to, unless_fault}
use Rattle.gx_slices.specs.Changing.{change_in}
use Rattle.gx_slices.specs.Picked.{IsPicked}
use Rattle.gx_slices.specs.declared.picking.Picked.{Picked}
use Rattle.gx_slices.proofs.Progressing.{HasProgressed-if}
use Rattle.gx_slices.proofs.changing_rows.change_picked.Goals as goal

pub change_kept-requires : goal.change_kept-requires
change_kept-requires g c =
    let k = c.args.change in
    let rows = shown_to g.stage.found.start k.writer.gxid (change_in k) in
    let picked = subst (λ (p : Picked). IsPicked k.cond rows p) c.in-Rows.is c.requires.1.1.1.1.1 in
    (c.requires.0, (c.requires.1.0, (c.requires.1.1.0, (c.requires.1.1.1.0, (c.requires.1.1.1.1.0, ap (λ (l : List KeyedRow). map (λ row. row.rid) l) picked.1)))))

pub returns-in-Rows : goal.returns-in-Rows
returns-in-Rows g c =
    let k = c.args.change in
    let gxid = k.writer.gxid in
    let rows = shown_to g.stage.found.start gxid (change_in k) in
    let picked = subst (λ (p : Picked). IsPicked k.cond rows p) c.in-Rows.is c.requires.1.1.1.1.1 in
    HasProgressed-if g.stage.found.tables c.change_kept.new.held gxid c.change_kept.result _ _
    (ap (λ (o : Option (KeyedRow × ArithFault)). unless_fault g.stage.found.start gxid (change_in k) rows o) (sym picked.0))
    c.change_kept.ensures

pub returns-in-Fault : goal.returns-in-Fault
returns-in-Fault g c =
    let k = c.args.change in
    let gxid = k.writer.gxid in
    let rows = shown_to g.stage.found.start gxid (change_in k) in
    let picked = subst (λ (p : Picked). IsPicked k.cond rows p) c.in-Fault.is c.requires.1.1.1.1.1 in
    HasProgressed-if g.stage.found.tables c.fail_on.new.held gxid c.fail_on.result _ _
    (ap (λ (o : Option (KeyedRow × ArithFault)). unless_fault g.stage.found.start gxid (change_in k) rows o) (sym picked))
    c.fail_on.ensures
