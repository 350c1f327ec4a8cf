-- What an order changes of what is held.
use Rattle.std.specs.Prelude.{◌≡◌, ◌≢◌, ◌==◌, ◌&&◌, Bool, true, false, if◌then◌else◌, map, option_map}
use Rattle.std.specs.BTreeMap.{BTreeMap, get}
use Rattle.std.specs.BTreeSet.{contains}
use Rattle.gx_ids.specs.declared.ids.Gxid.{Gxid}
use Rattle.gx_ids.specs.declared.ids.Table.{Table}
use Rattle.gx_ids.specs.declared.rid.Rid.{Rid}
use Rattle.gx_dsnap.specs.Gxids.{gxid_cmp}
use Rattle.gx_dtx.specs.declared.order.Order.{Order}
use Rattle.gx_slices.specs.Store.{status_of, with_status, writes_of}
use Rattle.gx_node.specs.Changes.{Change, turn_of}
use Rattle.gx_node.specs.Outcomes.{Outcome}
use Rattle.gx_rules.specs.AtSegment.{unless_below}
use Rattle.gx_rules.specs.Segments.{Phase, Reading, Writing, Prepared, Committed, Forgotten, Aborted, Seg, SegTurn, has_ended, local_of}
use Rattle.gx_slices.specs.Agrees.{entry_at, local_in, rows_in}
use Rattle.gx_slices.specs.declared.held.Entry.{Entry}
use Rattle.gx_slices.specs.declared.held.Held.{Held}
use Rattle.gx_rows.specs.declared.status.LocalStatus.{LocalStatus}
use Rattle.gx_rows.specs.declared.status.LocalStatus.TheVariants as status

-- the rule of an order's message
abbrev pub order_turn : Order → Seg → Gxid → Bool → SegTurn
order_turn order s g fails = unless_below s g (turn_of order s g fails (local_of s g))

-- what the store says of who has written
abbrev pub status_in : Phase → LocalStatus
status_in Reading = status.Running
status_in Writing = status.Running
status_in Prepared = status.Prepared
status_in Committed = status.Committed
status_in (Forgotten true) = status.Committed
status_in (Forgotten false) = status.Aborted
status_in Aborted = status.Aborted

-- the transaction's entry is that of the change, which leaves it in this phase, and no other has changed
pub record HasTaken (old new : BTreeMap Gxid Entry) (g : Gxid) (change : Change) (taken : Outcome) (phase : Phase) : Type 0 where
  pub local : local_in (get gxid_cmp new g) ≡ change.now
  pub others : (h : Gxid) → h.0 ≢ g.0 → get gxid_cmp new h ≡ get gxid_cmp old h
  pub rows : (h : Gxid) → rows_in (get gxid_cmp new h) ≡ rows_in (get gxid_cmp old h)
  pub phase_is : phase ≡ change.now.phase
  pub mark : taken.mark ≡ change.mark
  pub reply : taken.reply ≡ change.reply
  pub ends : taken.ends ≡ change.ends

-- the transaction's record is that of the change, and nothing else has changed
pub record HasMoved (old new : Held) (g : Gxid) (change : Change) (taken : Outcome) : Type 0 where
  pub horizon : new.store.horizon ≡ old.store.horizon
  pub writes : (t : Table) (r : Rid) → writes_of new.store t r ≡ map (with_status g (status_in change.now.phase)) (writes_of old.store t r)
  pub locks : new.locks ≡ old.locks
  pub status : status_of new.store g ≡ option_map (λ _. status_in change.now.phase) (status_of old.store g)
  pub statuses : (h : Gxid) → h.0 ≢ g.0 → status_of new.store h ≡ status_of old.store h
  pub local : local_in (entry_at new g) ≡ change.now
  pub entries : (h : Gxid) → h.0 ≢ g.0 → entry_at new h ≡ entry_at old h
  pub rows : (h : Gxid) → rows_in (entry_at new h) ≡ rows_in (entry_at old h)
  pub holders : (h : Gxid) → contains gxid_cmp new.holders h ≡ (if has_ended change.now.phase && (h.0 == g.0) then false else contains gxid_cmp old.holders h)
  pub mark : taken.mark ≡ change.mark
  pub reply : taken.reply ≡ change.reply
  pub ends : taken.ends ≡ change.ends
