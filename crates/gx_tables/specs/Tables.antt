-- The rows of a table that all segments show.
use Rattle.std.specs.Prelude.{◌≡◌, ℕ, ◌+◌, if◌then◌else◌, List, [], ◌∷◌, Option, Some, None, flat_map}
use Rattle.std.specs.Option.{option_or}
use Rattle.std.specs.declared.alloc.Global.{Global}
use Rattle.std.specs.declared.vec.Vec.{Vec}
use Rattle.gx_ids.specs.declared.ids.Table.{Table}
use Rattle.gx_ids.specs.declared.rid.Rid.{Rid}
use Rattle.gx_tree.specs.declared.row.KeyedRow.{KeyedRow}
use Rattle.gx_tree.specs.declared.value.Value.{Value}
use Rattle.gx_dsnap.specs.declared.snapshot.Snapshot.{Snapshot}
use Rattle.gx_meaning.specs.Answer.{AreRising}
use Rattle.gx_store.specs.Marks.{is_same_rid}
use Rattle.gx_store.specs.Rows.{row_at}
use Rattle.gx_rules.specs.Segments.{Seg}
use Rattle.gx_rules.specs.Shown.{shown}
use Rattle.gx_segment.specs.Steps.{nobody, no_command}

-- the last row of an identity
abbrev pub last_at : List KeyedRow → Rid → Option (List Value)
last_at [] rid = None
last_at (r ∷ rs) rid = option_or (last_at rs rid) (if is_same_rid r.rid rid then Some r.row else None)

-- what segments show of a table to nobody's transaction, one behind the other
abbrev pub shown_by : List Seg → Snapshot → Table → List KeyedRow
shown_by segments snapshot table = flat_map (λ s. shown s snapshot nobody no_command table) segments

-- rows in the order of their identities, of each the last one among others
pub record AreLastOf (all rows : List KeyedRow) : Type 0 where
  pub rising : AreRising rows
  pub last : (rid : Rid) → row_at rows rid ≡ last_at all rid

-- the tables from the one of this number on, as the segments show them by a snapshot
abbrev pub AreTablesOf : List Seg → Snapshot → ℕ → List (Vec KeyedRow Global) → Type 0
AreTablesOf segments snapshot k [] = Unit {0}
AreTablesOf segments snapshot k (rows ∷ tables) = AreLastOf (shown_by segments snapshot (record { 0 = k })) rows.items × AreTablesOf segments snapshot (k + 1) tables

-- an entry as a row
abbrev pub entry_row : Rid × List Value → KeyedRow
entry_row entry = record { rid = entry.0; row = entry.1 }
