use Rattle.std.proofs.Common.{◌≡◌, ◌∙◌, List, ap, subst, sym}
use Rattle.std.proofs.lemmas.Result.{IfOk-weaker}
use Rattle.gx_tree.specs.declared.row.KeyedRow.{KeyedRow}
use Rattle.gx_store.specs.View.{IsView}
use Rattle.gx_legal.specs.Viewed.{listed, view_rows}
use Rattle.gx_legal.proofs.Views.{view-gathered, view-is}
use Rattle.gx_legal.proofs.viewing.view.Goals as goal

pub returns-clause-rows : goal.returns-clause-rows
returns-clause-rows c =
    let a = c.args in
    IfOk-weaker c.rows_of.result _ _ (λ rows same. same ∙ ap listed c.in_ok-images.ensures ∙ view-gathered a.marks.now a.before.now c.in_ok-committed.committed a.reader a.table c.in_ok-committed.ensures) c.rows_of.ensures

pub returns-clause-view : goal.returns-clause-view
returns-clause-view c =
    let a = c.args in
    IfOk-weaker c.rows_of.result _ _ (λ rows same.
    let is : rows.items ≡ view_rows a.marks.now a.before.now a.reader a.table =
    same ∙ ap listed c.in_ok-images.ensures ∙ view-gathered a.marks.now a.before.now c.in_ok-committed.committed a.reader a.table c.in_ok-committed.ensures in
    subst (λ (rows : List KeyedRow). IsView a.marks.now a.before.now a.reader a.table rows) (sym is) (view-is a.marks.now a.before.now a.reader a.table)) c.rows_of.ensures
