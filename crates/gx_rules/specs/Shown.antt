-- What a segment shows to a reader, what is current there, and what it keeps of a transaction for its journal.
use Rattle.std.specs.Prelude.{◌==◌, nat_lt, Bool, ◌&&◌, ◌||◌, List, [], ◌∷◌, filter, find, fold, reverse, Some, None}
use Rattle.std.specs.declared.option.Option.{Option}
use Rattle.std.specs.List.{flat_map}
use Rattle.gx_ids.specs.declared.ids.Cid.{Cid}
use Rattle.gx_ids.specs.declared.ids.Gxid.{Gxid}
use Rattle.gx_ids.specs.declared.ids.Table.{Table}
use Rattle.gx_ids.specs.declared.rid.Rid.{Rid}
use Rattle.gx_tree.specs.declared.row.KeyedRow.{KeyedRow}
use Rattle.gx_tree.specs.declared.value.Value.{Value}
use Rattle.gx_dsnap.specs.Gxids.{is_below}
use Rattle.gx_dsnap.specs.Snapshot.{sees}
use Rattle.gx_dsnap.specs.declared.snapshot.Snapshot.{Snapshot}
use Rattle.gx_msg.specs.declared.item.Kept.{Kept}
use Rattle.gx_store.specs.Journals.{kept_with}
use Rattle.gx_store.specs.Marks.{is_same_gxid, is_same_rid}
use Rattle.gx_rules.specs.Segments.{Seg, Version, has_committed, is_unaborted, local_of}

-- the last that the versions say of each row, by the rows' identities
abbrev pub kept_one : List Kept → Version → List Kept
kept_one kept v = kept_with (record { rid = v.rid; table = v.table; image = v.image }) kept

abbrev pub last_images : List Version → List Kept
last_images versions = fold kept_one [] versions

-- what a transaction has written at a segment
abbrev pub kept_of : Seg → Gxid → List Kept
kept_of s g = last_images (filter (λ v. is_same_gxid v.gxid g) s.versions)

-- A version counts for a reader where an earlier command of the reader's transaction wrote it, or where it is committed at
-- the segment and the snapshot sees its transaction. Below the horizon every snapshot does.
abbrev pub counts : Seg → Snapshot → Gxid → Cid → Version → Bool
counts s snapshot g c v =
    (is_same_gxid v.gxid g && nat_lt v.cid.0 c.0) || (has_committed (local_of s v.gxid).phase && (is_below s.horizon v.gxid || sees snapshot v.gxid))

-- rows that aren't gone
abbrev pub row_in : Rid → Option (List Value) → List KeyedRow
row_in rid None = []
row_in rid (Some row) = record { rid = rid; row = row } ∷ []

abbrev pub rows_in : List Kept → List KeyedRow
rows_in kept = flat_map (λ k. row_in k.rid k.image) kept

-- the rows of a table that a segment shows to a command, by their identities
abbrev pub shown : Seg → Snapshot → Gxid → Cid → Table → List KeyedRow
shown s snapshot g c table = rows_in (last_images (filter (λ v. (v.table.0 == table.0) && counts s snapshot g c v) s.versions))

-- CURRENT
-- the newest version of a row whose transaction hasn't aborted
abbrev pub is_current : Seg → Table → Rid → Version → Bool
is_current s table rid v = (v.table.0 == table.0) && (is_same_rid v.rid rid && is_unaborted (local_of s v.gxid).phase)

abbrev pub current_of : Seg → Table → Rid → Option Version
current_of s table rid = find (is_current s table rid) (reverse s.versions)
