-- What the store shows for a condition is enough of what the rule shows.
use Rattle.std.proofs.Common.{List, Some, sym, subst}
use Rattle.std.specs.declared.option.Option.{Option}
use Rattle.gx_ids.specs.declared.ids.Cid.{Cid}
use Rattle.gx_ids.specs.declared.ids.Gxid.{Gxid}
use Rattle.gx_ids.specs.declared.ids.Table.{Table}
use Rattle.gx_ids.specs.declared.rid.Rid.{Rid}
use Rattle.gx_tree.specs.declared.cond.Cond.{Cond}
use Rattle.gx_tree.specs.declared.row.KeyedRow.{KeyedRow}
use Rattle.gx_tree.specs.declared.value.Value.{Value}
use Rattle.gx_dsnap.specs.declared.snapshot.Snapshot.{Snapshot}
use Rattle.gx_meaning.specs.Answer.{AreRising}
use Rattle.gx_store.specs.Rows.{row_at}
use Rattle.gx_rules.specs.Segments.{Seg}
use Rattle.gx_rules.specs.Shown.{shown}
use Rattle.gx_slices.specs.Apart.{IsStored}
use Rattle.gx_slices.specs.Keyed.{IsShownFor}
use Rattle.gx_slices.specs.Picked.{AreEnough, AreTypedOn}
use Rattle.gx_slices.specs.Store.{Store, shown_row}
use Rattle.gx_slices.proofs.Counting.{HasNoDead, HasNoneBelow, rising-shown, row_at-shown}
use Rattle.gx_slices.proofs.Enough.{enough}

module _ (store : Store) (s : Seg) (is : IsStored store s) (snap : Snapshot) (g : Gxid) (c : Cid) (none : HasNoDead s g c) (below : HasNoneBelow s g c) (table : Table) (condition : Option Cond) where
  pub enough-shown : (rows : List KeyedRow) → AreRising rows → ((rid : Rid) → IsShownFor condition (shown_row store snap (Some g) c table rid) (row_at rows rid)) → AreTypedOn condition (shown s snap g c table) → AreEnough condition (shown s snap g c table) rows
  enough-shown rows rising images typed =
      enough condition (shown s snap g c table) rows (rising-shown store s is snap g c none below table) rising
      (λ rid. subst (λ (o : Option (List Value)). IsShownFor condition o (row_at rows rid)) (sym (row_at-shown store s is snap g c none below table rid)) (images rid))
      typed
