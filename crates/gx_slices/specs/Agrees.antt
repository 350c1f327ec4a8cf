-- What a segment holds, against the data of its rule. Of transactions below the horizon only versions are kept, each with what became
-- of its transaction; their records are dropped. Of a row's versions those may be gone that nobody is shown any more.
use Rattle.std.specs.Prelude.{◌≡◌, ◌<◌, ◌≤◌, ◌==◌, Bool, true, false, not, ◌&&◌, nat_lt, is_some, List, [], filter, map, All, IsTrue, slice_get, Some, None}
use Rattle.std.specs.declared.option.Option.{Option}
use Rattle.std.specs.List.{list_any}
use Rattle.std.specs.Map.{lookup}
use Rattle.std.specs.BTreeMap.{is_at}
use Rattle.std.specs.BTreeSet.{contains}
use Rattle.gx_ids.specs.declared.ids.Gxid.{Gxid}
use Rattle.gx_ids.specs.declared.ids.Table.{Table}
use Rattle.gx_ids.specs.declared.rid.Rid.{Rid}
use Rattle.gx_tree.specs.declared.schema.Schema.{Schema}
use Rattle.gx_tree.specs.declared.value.Value.{Value}
use Rattle.gx_dsnap.specs.Gxids.{gxid_cmp}
use Rattle.gx_msg.specs.declared.item.Kept.{Kept}
use Rattle.gx_store.specs.Marks.{is_same_gxid, is_same_rid}
use Rattle.gx_waits.specs.Claim.{same_claim}
use Rattle.gx_rows.specs.Counts.{is_committed}
use Rattle.gx_rows.specs.Rows.{is_unaborted}
use Rattle.gx_slices.specs.Store.{Write, passes, status_of, writes_of}
use Rattle.gx_node.specs.Phases.{local_of}
use Rattle.gx_rules.specs.Fits.{holds_locks, is_right_row, kinds_in}
use Rattle.gx_rules.specs.Segments as rule
use Rattle.gx_rules.specs.Segments.{Seg, Version, has_committed, has_ended, new_local}
use Rattle.gx_rules.specs.Shown.{kept_of}
use Rattle.gx_rules.specs.Slices.{own_lock}
use Rattle.gx_slices.specs.Left.{AreLeft}
use Rattle.gx_slices.specs.Owning.{AreOwn}
use Rattle.gx_slices.specs.Waiting.{AreWaits}
use Rattle.gx_slices.specs.declared.held.Entry.{Entry}
use Rattle.gx_slices.specs.declared.held.Held.{Held}

-- TRANSACTIONS
abbrev pub local_in : Option Entry → rule.Local
local_in None = new_local
local_in (Some e) = local_of e.local

abbrev pub rows_in : Option Entry → List Kept
rows_in None = []
rows_in (Some e) = e.kept

abbrev pub entry_at : Held → Gxid → Option Entry
entry_at held g = lookup (is_at (gxid_cmp g)) held.entries.entries

-- VERSIONS
-- the transaction has written here
abbrev pub has_version : Seg → Gxid → Bool
has_version s g = list_any (λ v. is_same_gxid v.gxid g) s.versions

-- a row has a value of each of its table's kinds
abbrev pub is_right_image : Option Schema → Option (List Value) → Bool
is_right_image (Some schema) (Some row) = is_right_row (kinds_in schema) row
is_right_image (Some schema) None = true
is_right_image None image = false

abbrev pub is_right_version : List Schema → Version → Bool
is_right_version tables v = is_right_image (slice_get tables v.table.0) v.image

-- Who has written and stands below the horizon has ended. Who holds itself has written and hasn't ended: so below the horizon nobody
-- is waited for.
pub record AreWriters (s : Seg) : Type 0 where
  pub low : (g : Gxid) → g.0 < s.horizon.0 → has_version s g ≡ true → has_ended (rule.local_of s g).phase ≡ true
  pub own : (g : Gxid) → list_any (same_claim (own_lock g)) s.locks.holds ≡ true → (has_version s g && not (has_ended (rule.local_of s g).phase)) ≡ true

-- what is held says the same as the rule's data, but for dead versions that are dropped
pub record IsHeld (tables : List Schema) (held : Held) (s : Seg) : Type 0 where
  pub horizon : held.store.horizon ≡ s.horizon
  pub locals : (g : Gxid) → s.horizon.0 ≤ g.0 → local_in (entry_at held g) ≡ rule.local_of s g
  pub kept : (g : Gxid) → s.horizon.0 ≤ g.0 → rows_in (entry_at held g) ≡ kept_of s g
  pub dropped : (g : Gxid) → g.0 < s.horizon.0 → entry_at held g ≡ None
  pub holders : (g : Gxid) → contains gxid_cmp held.holders g ≡ holds_locks (rule.local_of s g)
  pub writes : (table : Table) (rid : Rid) → AreLeft s table rid (writes_of held.store table rid)
  pub wrote : (g : Gxid) → s.horizon.0 ≤ g.0 → is_some (status_of held.store g) ≡ has_version s g
  pub committed : (g : Gxid) → s.horizon.0 ≤ g.0 → passes is_committed (status_of held.store g) ≡ (has_version s g && has_committed (rule.local_of s g).phase)
  pub unaborted : (g : Gxid) → s.horizon.0 ≤ g.0 → passes is_unaborted (status_of held.store g) ≡ (has_version s g && rule.is_unaborted (rule.local_of s g).phase)
  pub came : (g : Gxid) → has_version s g ≡ true → nat_lt 0 (rule.local_of s g).last ≡ true
  pub writers : AreWriters s
  pub typed : All (λ v. IsTrue (is_right_version tables v)) s.versions
  pub locks : held.locks ≡ s.locks
  pub owned : AreOwn s.locks.holds
  pub waits : AreWaits tables s
