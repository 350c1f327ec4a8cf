-- While a command runs, the entry of its transaction is apart from the others.
use Rattle.std.specs.Prelude.{◌≡◌, ◌≢◌, ◌≤◌, true, ◌&&◌, nat_lt, is_some, filter, map, Some}
use Rattle.std.specs.BTreeSet.{contains}
use Rattle.gx_ids.specs.declared.ids.Cid.{Cid}
use Rattle.gx_ids.specs.declared.ids.Gxid.{Gxid}
use Rattle.gx_ids.specs.declared.ids.Table.{Table}
use Rattle.gx_ids.specs.declared.rid.Rid.{Rid}
use Rattle.gx_dsnap.specs.Gxids.{gxid_cmp}
use Rattle.gx_locks.specs.Locks.{wait_of}
use Rattle.gx_msg.specs.declared.reply.Reply.{Reply}
use Rattle.gx_rows.specs.Counts.{is_committed}
use Rattle.gx_rows.specs.Rows.{is_unaborted}
use Rattle.gx_slices.specs.Store.{Store, passes, status_of, writes_of}
use Rattle.gx_node.specs.Phases.{local_of}
use Rattle.gx_rules.specs.Fits.{is_waiting}
use Rattle.gx_rules.specs.Segments as rule
use Rattle.gx_rules.specs.Segments.{Seg, has_committed}
use Rattle.gx_rules.specs.Shown.{kept_of}
use Rattle.gx_slices.specs.Agrees.{AreWriters, entry_at, has_version}
use Rattle.gx_slices.specs.Left.{AreLeft}
use Rattle.gx_slices.specs.Owning.{AreOwn}
use Rattle.gx_slices.specs.Waiting.{is_open}
use Rattle.gx_slices.specs.declared.held.Entry.{Entry}
use Rattle.gx_slices.specs.declared.held.Held.{Held}

-- the store has the versions, but for some that are dead, and knows who has committed
pub record IsStored (store : Store) (s : Seg) : Type 0 where
  pub horizon : store.horizon ≡ s.horizon
  pub writes : (table : Table) (rid : Rid) → AreLeft s table rid (writes_of store table rid)
  pub wrote : (g : Gxid) → s.horizon.0 ≤ g.0 → is_some (status_of store g) ≡ has_version s g
  pub committed : (g : Gxid) → s.horizon.0 ≤ g.0 → passes is_committed (status_of store g) ≡ (has_version s g && has_committed (rule.local_of s g).phase)
  pub unaborted : (g : Gxid) → s.horizon.0 ≤ g.0 → passes is_unaborted (status_of store g) ≡ (has_version s g && rule.is_unaborted (rule.local_of s g).phase)

-- The store, the locks and the entry are as the data, which differ from those before by this transaction alone; all else is held as
-- at first, without the entry.
pub record IsApart (start : Seg) (first held : Held) (entry : Entry) (g : Gxid) (s : Seg) : Type 0 where
  pub stored : IsStored held.store s
  pub locks : held.locks ≡ s.locks
  pub entries : held.entries ≡ first.entries
  pub holders : held.holders ≡ first.holders
  pub local : local_of entry.local ≡ rule.local_of s g
  pub kept : entry.kept ≡ kept_of s g
  pub open_here : is_open (rule.local_of s g).phase ≡ true
  pub node : s.node ≡ start.node
  pub horizon : s.horizon ≡ start.horizon
  pub owned : AreOwn s.locks.holds
  pub alive : s.horizon.0 ≤ g.0
  pub writers : AreWriters s
  pub waiting : is_waiting (rule.local_of s g) ≡ is_waiting (rule.local_of start g)
  pub other_waits : (h : Gxid) → h.0 ≢ g.0 → wait_of s.locks h ≡ wait_of start.locks h
  pub other_locals : (h : Gxid) → h.0 ≢ g.0 → rule.local_of s h ≡ rule.local_of start h
  pub other_rows : (h : Gxid) → h.0 ≢ g.0 → kept_of s h ≡ kept_of start h
  pub other_versions : (h : Gxid) → h.0 ≢ g.0 → has_version s h ≡ has_version start h

-- the entry of a transaction that has just run a command, with its answer
abbrev pub answered : Entry → Cid → Reply → Entry
answered entry c r = record entry { local = record entry.local { last = c.0; answer = Some r } }

-- the entry is back, and all else is as it was
pub record IsBack (old new : Held) (g : Gxid) (c : Cid) (entry : Entry) : Type 0 where
  pub store : new.store ≡ old.store
  pub locks : new.locks ≡ old.locks
  pub here : entry_at new g ≡ Some entry
  pub entries : (h : Gxid) → h.0 ≢ g.0 → entry_at new h ≡ entry_at old h
  pub holds : contains gxid_cmp new.holders g ≡ nat_lt 0 c.0
  pub holders : (h : Gxid) → h.0 ≢ g.0 → contains gxid_cmp new.holders h ≡ contains gxid_cmp old.holders h
