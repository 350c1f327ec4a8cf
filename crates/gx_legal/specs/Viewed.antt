-- The rows that a reader is shown, as a list.
use Rattle.std.specs.Prelude.{◌==◌, nat_lt, Bool, if◌then◌else◌, ◌&&◌, ◌||◌, List, [], ◌∷◌, Some, None}
use Rattle.std.specs.List.{flat_map}
use Rattle.std.specs.BTreeMap.{insert_entry}
use Rattle.std.specs.BTreeSet.{BTreeSet, contains}
use Rattle.std.specs.declared.option.Option.{Option}
use Rattle.gx_ids.specs.declared.ids.Gxid.{Gxid}
use Rattle.gx_ids.specs.declared.ids.Cid.{Cid}
use Rattle.gx_ids.specs.declared.ids.Table.{Table}
use Rattle.gx_ids.specs.declared.rid.Rid.{Rid}
use Rattle.gx_dsnap.specs.Gxids.{gxid_cmp}
use Rattle.gx_meaning.specs.Order.{rid_order}
use Rattle.gx_tree.specs.declared.row.KeyedRow.{KeyedRow}
use Rattle.gx_tree.specs.declared.value.Value.{Value}
use Rattle.gx_store.specs.declared.mark.Mark.{Mark}
use Rattle.gx_store.specs.declared.mark.Mark.TheVariants.{Write}
use Rattle.gx_store.specs.Marks.{is_same_gxid}
use Rattle.gx_store.specs.View.{Reader, is_shown_to}

-- whether a reader that sees these transactions as committed is shown the writes of a command
abbrev pub is_seen_by : Reader → BTreeSet Gxid → Gxid → Cid → Bool
is_seen_by None committed g c = contains gxid_cmp committed g
is_seen_by (Some own) committed g c = contains gxid_cmp committed g || (is_same_gxid own.0 g && nat_lt c.0 own.1.0)

abbrev pub Images : Type 0
Images = List (Rid × Option (List Value))

-- the image that the last of the shown writes to each row of a table left, from those before these marks
abbrev pub images_from : (Gxid → Cid → Bool) → Table → Images → List Mark → Images
images_from shown table images [] = images
images_from shown table images (Write g c node t rid image ∷ ms) =
    images_from shown table (if (t.0 == table.0) && shown g c then insert_entry rid_order images rid image else images) ms
images_from shown table images (_ ∷ ms) = images_from shown table images ms

-- the row, unless it is gone
abbrev pub row_in : Rid → Option (List Value) → List KeyedRow
row_in rid None = []
row_in rid (Some row) = record { rid = rid; row = row } ∷ []

-- the rows that aren't gone
abbrev pub listed : Images → List KeyedRow
listed images = flat_map (λ e. row_in e.0 e.1) images

abbrev pub view_rows : List Mark → List Mark → Reader → Table → List KeyedRow
view_rows marks before reader table = listed (images_from (is_shown_to reader before) table [] marks)
