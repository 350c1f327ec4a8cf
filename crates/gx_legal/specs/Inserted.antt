-- Whether an INSERT may write a row, as tests.
use Rattle.std.specs.Prelude.{ℕ, ◌-◌, ◌==◌, nat_le, Bool, false, not, ◌&&◌, List, slice_get, Some, None, Ok, Err, Result}
use Rattle.std.specs.declared.option.Option.{Option}
use Rattle.gx_ids.specs.declared.ids.Gxid.{Gxid}
use Rattle.gx_ids.specs.declared.ids.Cid.{Cid}
use Rattle.gx_ids.specs.declared.ids.Node.{Node}
use Rattle.gx_ids.specs.declared.ids.Table.{Table}
use Rattle.gx_ids.specs.declared.rid.Rid.{Rid}
use Rattle.gx_tree.specs.declared.expr.Expr.{Expr}
use Rattle.gx_tree.specs.declared.schema.Dist.{Dist}
use Rattle.gx_tree.specs.declared.schema.Dist.TheVariants.{Randomly}
use Rattle.gx_tree.specs.declared.schema.Schema.{Schema}
use Rattle.gx_tree.specs.declared.value.Value.{Value}
use Rattle.gx_meaning.specs.Constants.{values_of}
use Rattle.gx_meaning.specs.Place.{row_place}
use Rattle.gx_meaning.specs.declared.fault.ArithFault.{ArithFault}
use Rattle.gx_script.specs.declared.Script.{Script}
use Rattle.gx_store.specs.declared.mark.Mark.{Mark}
use Rattle.gx_store.specs.Marks.{is_same_gxid, is_written}
use Rattle.gx_store.specs.Writes.{dist_of}
use Rattle.gx_legal.specs.Images.{is_same_image}

abbrev pub is_own : Gxid → Cid → Rid → Bool
is_own g c rid = is_same_gxid rid.gxid g && ((rid.cid.0 == c.0) && nat_le 1 rid.ordinal)

-- the distribution of a table that may be there
abbrev pub dist_in : Option Schema → Dist
dist_in None = Randomly
dist_in (Some schema) = schema.dist

abbrev pub is_row_of : ℕ → Dist → Node → Rid → Option (List Value) → Result (List Value) ArithFault → Bool
is_row_of segments dist node rid image (Ok values) = (node.0 == row_place segments dist values rid) && is_same_image image (Some values)
is_row_of segments dist node rid image (Err fault) = false

abbrev pub is_tuple_row : ℕ → Dist → Node → Rid → Option (List Value) → Option (List Expr) → Bool
is_tuple_row segments dist node rid image None = false
is_tuple_row segments dist node rid image (Some tuple) = is_row_of segments dist node rid image (values_of tuple)

abbrev pub is_inserted : Script → List Mark → Gxid → Cid → Table → List (List Expr) → Node → Rid → Option (List Value) → Bool
is_inserted script marks g c table tuples node rid image =
    is_own g c rid && (not (is_written marks rid) && is_tuple_row script.segments (dist_of script.tables table.0) node rid image (slice_get tuples (rid.ordinal - 1)))
