use Rattle.std.proofs.Common.{◌∙◌, List, ap, subst, sym, true}
use Rattle.gx_node.specs.Right.{IsRightFor}
use Rattle.gx_tree.specs.declared.row.KeyedRow.{KeyedRow}
use Rattle.gx_tree.specs.declared.slice.Slice.TheVariants as slice
use Rattle.gx_rules.specs.Segments.{after_marks}
use Rattle.gx_slices.specs.Ran.{HasRun}
use Rattle.gx_rules.specs.Slices.{inserted, inserts}
use Rattle.std.specs.Prelude.{length}
use Rattle.gx_slices.proofs.Progressing.{HasProgressed-ran, HasProgressed-same, IsHeld-tables, MayRun-tables, adds-some}
use Rattle.gx_slices.proofs.running.run_insert.Goals as goal

pub insert-requires : goal.insert-requires
insert-requires g c =
    let tables = c.args.tables.now in
    let w = c.args.writer in
    let may = MayRun-tables g.found.tables tables c.requires.0 g.found.start w.gxid w.cid c.args.snapshot (slice.Insert w.table c.args.rows) c.requires.1.1.0 in
    let right = subst (λ (rows : List KeyedRow). IsRightFor tables w.gxid w.cid (slice.Insert w.table rows) true) (sym (c.as_slice.ensures ∙ c.get.ensures)) may.right in (
      IsHeld-tables g.found.tables tables c.requires.0 c.args.held.now g.found.start c.requires.1.0,
      (may.alive, (may.open_here, (may.free, (right, (c.requires.1.1.1, may.new))))),
    )

pub returns : goal.returns
returns g c =
    let w = c.args.writer in
    let may = c.requires.1.1.0 in
    let rows = c.args.rows in
    let before = c.args.marks.items in
    let made = subst
    (λ (rs : List KeyedRow). HasRun c.args.tables.now c.insert.new.held w.gxid c.in_ok-ran.ran (after_marks before (inserts w.gxid w.cid (length rs) (inserted g.found.start w.gxid w.cid w.table rs))))
    (c.as_slice.ensures ∙ c.get.ensures)
    c.in_ok-ran.ensures in
    HasProgressed-same g.found.tables c.insert.new.held w.gxid c.answered.result _ _
    (ap (after_marks before) (adds-some g.found.start w.gxid w.cid w.table rows c.args.snapshot may.reads))
    (HasProgressed-ran c.args.tables.now g.found.tables c.requires.0 c.insert.new.held w.gxid c.in_ok-ran.ran (after_marks before (inserts w.gxid w.cid (length rows) (inserted g.found.start w.gxid w.cid w.table rows))) made c.answered.result c.answered.ensures)
