-- Rows that get an image, one after another.
use Rattle.std.specs.Prelude.{◌≡◌, ◌≢◌, ◌++◌, false, List, [], ◌∷◌, IsTrue, slice_get, unwrap_or, Some}
use Rattle.std.specs.declared.option.Option.{Option}
use Rattle.std.specs.List.{list_any}
use Rattle.gx_ids.specs.declared.ids.Cid.{Cid}
use Rattle.gx_ids.specs.declared.ids.Gxid.{Gxid}
use Rattle.gx_ids.specs.declared.ids.Node.{Node}
use Rattle.gx_ids.specs.declared.ids.Table.{Table}
use Rattle.gx_ids.specs.declared.rid.Rid.{Rid}
use Rattle.gx_tree.specs.declared.row.KeyedRow.{KeyedRow}
use Rattle.gx_tree.specs.declared.schema.Schema.{Schema}
use Rattle.gx_tree.specs.declared.value.Value.{Value}
use Rattle.gx_waits.specs.Claims.{is_of}
use Rattle.gx_rows.specs.declared.status.LocalStatus.TheVariants.{Running}
use Rattle.gx_slices.specs.Store.{status_of, writes_of}
use Rattle.gx_node.specs.Phases.{phase_of}
use Rattle.gx_node.specs.declared.local.Phase.TheVariants as phase
use Rattle.gx_store.specs.Journals.{kept_with}
use Rattle.gx_store.specs.declared.mark.Mark.{Mark}
use Rattle.gx_store.specs.declared.mark.Mark.TheVariants.{Write}
use Rattle.gx_rules.specs.Segments.{Seg}
use Rattle.gx_rules.specs.Slices.{inserted}
use Rattle.gx_slices.specs.Agrees.{is_right_image}
use Rattle.gx_slices.specs.Apart.{IsApart}
use Rattle.gx_slices.specs.Owning.{own_locks, own_marks}
use Rattle.gx_slices.specs.declared.held.Entry.{Entry}
use Rattle.gx_slices.specs.declared.held.Held.{Held}

-- the row has a value of each of the table's kinds
abbrev pub IsRight : List Schema → Table → KeyedRow → Type 0
IsRight tables table row = IsTrue (is_right_image (slice_get tables table.0) (Some row.row))

-- what giving a row an image does to what is held, the transaction's entry and the marks
pub record IsPut (g : Gxid) (c : Cid) (node : Node) (table : Table) (rid : Rid) (image : Option (List Value)) (held held' : Held) (entry entry' : Entry) (marks marks' : List Mark) : Type 0 where
  pub written : writes_of held'.store table rid ≡ writes_of held.store table rid ++ record { writer = Some g; cid = c; status = unwrap_or (status_of held.store g) Running; image = image } ∷ []
  pub rows : (r : Rid) → r ≢ rid → writes_of held'.store table r ≡ writes_of held.store table r
  pub tables : (t : Table) (r : Rid) → t ≢ table → writes_of held'.store t r ≡ writes_of held.store t r
  pub status : status_of held'.store g ≡ Some (unwrap_or (status_of held.store g) Running)
  pub others : (h : Gxid) → h.0 ≢ g.0 → status_of held'.store h ≡ status_of held.store h
  pub horizon : held'.store.horizon ≡ held.store.horizon
  pub entries : held'.entries ≡ held.entries
  pub holders : held'.holders ≡ held.holders
  pub locks : held'.locks ≡ own_locks g (phase_of entry.local.phase) held.locks
  pub local : entry'.local ≡ record entry.local { phase = phase.Writing }
  pub kept : entry'.kept ≡ kept_with (record { rid = rid; table = table; image = image }) entry.kept
  pub mark : marks' ≡ marks ++ Write g c node table rid image ∷ [] ++ own_marks node g (phase_of entry.local.phase)

-- these rows are in, behind the marks before them, and the transaction waits for nothing
pub record IsInserted (start : Seg) (g : Gxid) (c : Cid) (table : Table) (rows : List KeyedRow) (first held : Held) (entry : Entry) (before marks : List Mark) : Type 0 where
  pub apart : IsApart start first held entry g (inserted start g c table rows).seg
  pub free : list_any (is_of g) (inserted start g c table rows).seg.locks.waits ≡ false
  pub told : marks ≡ before ++ (inserted start g c table rows).marks
