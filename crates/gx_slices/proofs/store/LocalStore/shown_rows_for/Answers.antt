use Rattle.std.proofs.Common.{◌∙◌, List, ap, subst}
use Rattle.std.proofs.lemmas.Result.{IfOk-weaker}
use Rattle.std.specs.Prelude.{Option}
use Rattle.gx_ids.specs.declared.ids.Lxid.{Lxid}
use Rattle.gx_tree.specs.declared.value.Value.{Value}
use Rattle.gx_store.specs.Rows.{row_at}
use Rattle.gx_slices.specs.Filed.{image_at, versions_in}
use Rattle.gx_slices.specs.Keyed.{IsShownFor}
use Rattle.gx_slices.specs.Store.{Store, shown_row}
use Rattle.gx_slices.proofs.Readers.{shown_row-shown_of}
use Rattle.gx_slices.proofs.store.LocalStore.shown_rows_for.Goals as goal

pub returns-clause-images : goal.returns-clause-images
returns-clause-images c =
    let tables = c.self.inside.tables.entries in
    let x = c.self.inside.xids in
    IfOk-weaker
    c.rows_to_test.result
    _
    _
    (λ rows at rid.
    subst
    (λ (shown : Option (List Value)). IsShownFor c.args.cond.now shown (row_at rows.items rid))
    (ap (λ (own : Option Lxid). image_at (versions_in tables c.args.table) x c.args.snap.now own c.args.cid rid) c.own_lxid-own.ensures
    ∙ shown_row-shown_of tables x c.self.invariant.sound c.args.table rid c.args.snap.now c.args.own c.args.cid
    ∙ ap (λ (s : Store). shown_row s c.args.snap.now c.args.own c.args.cid c.args.table rid) c.self.view_is)
    (at rid))
    c.rows_to_test.ensures.images
