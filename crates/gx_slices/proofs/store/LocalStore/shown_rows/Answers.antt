use Rattle.std.proofs.Common.{◌∙◌, List, ap, subst, sym}
use Rattle.std.proofs.lemmas.Result.{IfOk-weaker}
use Rattle.std.specs.Prelude.{Option}
use Rattle.gx_ids.specs.declared.ids.Lxid.{Lxid}
use Rattle.gx_tree.specs.declared.row.KeyedRow.{KeyedRow}
use Rattle.gx_meaning.specs.Answer.{AreRising}
use Rattle.gx_store.specs.Rows.{row_at}
use Rattle.gx_slices.specs.Store.{Store, shown_row}
use Rattle.gx_slices.specs.Filed.{image_at, versions_in}
use Rattle.gx_slices.proofs.Readers.{shown_row-shown_of}
use Rattle.gx_slices.proofs.Shown.{row_at-rows_at}
use Rattle.gx_slices.proofs.store.LocalStore.shown_rows.Goals as goal

pub returns-clause-images : goal.returns-clause-images
returns-clause-images c =
    let tables = c.self.inside.tables.entries in
    let x = c.self.inside.xids in
    IfOk-weaker
    c.to_all_keyed.result
    _
    _
    (λ keyed same rid.
    ap (λ items. row_at items rid) (same ∙ c.as_slice.ensures.value ∙ c.in_ok-rows.ensures.whole)
    ∙ row_at-rows_at (versions_in tables c.args.table) x c.args.table c.args.snap.now c.own_lxid-own.result c.args.cid rid (c.self.invariant.sound.filed c.args.table rid)
    ∙ ap (λ (own : Option Lxid). image_at (versions_in tables c.args.table) x c.args.snap.now own c.args.cid rid) c.own_lxid-own.ensures
    ∙ shown_row-shown_of tables x c.self.invariant.sound c.args.table rid c.args.snap.now c.args.own c.args.cid
    ∙ ap (λ (s : Store). shown_row s c.args.snap.now c.args.own c.args.cid c.args.table rid) c.self.view_is)
    c.to_all_keyed.ensures

pub returns-clause-rising : goal.returns-clause-rising
returns-clause-rising c =
    IfOk-weaker
    c.to_all_keyed.result
    _
    _
    (λ keyed same. subst (λ (items : List KeyedRow). AreRising items) (sym (same ∙ c.as_slice.ensures.value)) c.in_ok-rows.ensures.rising)
    c.to_all_keyed.ensures
