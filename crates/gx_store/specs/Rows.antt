-- What a list of rows has at an identity.
use Rattle.std.specs.Prelude.{if◌then◌else◌, List, [], ◌∷◌, Some, None}
use Rattle.std.specs.declared.option.Option.{Option}
use Rattle.gx_ids.specs.declared.rid.Rid.{Rid}
use Rattle.gx_tree.specs.declared.row.KeyedRow.{KeyedRow}
use Rattle.gx_tree.specs.declared.value.Value.{Value}
use Rattle.gx_store.specs.Marks.{is_same_rid}

abbrev pub row_at : List KeyedRow → Rid → Option (List Value)
row_at [] rid = None
row_at (r ∷ rs) rid = if is_same_rid r.rid rid then Some r.row else row_at rs rid
