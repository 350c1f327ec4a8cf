-- What a slice that waits, and one that waits no more, change of what is held.
use Rattle.std.specs.Prelude.{◌≡◌, ◌≢◌, Some, None}
use Rattle.std.specs.declared.option.Option.{Option}
use Rattle.gx_ids.specs.declared.ids.Gxid.{Gxid}
use Rattle.gx_node.specs.Phases.{local_of}
use Rattle.gx_node.specs.declared.local.Suspended.{Suspended}
use Rattle.gx_slices.specs.Agrees.{entry_at, local_in, rows_in}
use Rattle.gx_slices.specs.Apart.{IsBack}
use Rattle.gx_slices.specs.declared.held.Entry.{Entry}
use Rattle.gx_slices.specs.declared.held.Held.{Held}

-- its command is the last that came, and has no answer yet
abbrev pub suspended : Entry → Suspended → Entry
suspended entry w = record entry { local = record entry.local { last = w.cid.0; answer = None; suspended = Some w } }

abbrev pub woken : Entry → Entry
woken entry = record entry { local = record entry.local { suspended = None } }

pub record HasSuspended (old new : Held) (g : Gxid) (w : Suspended) : Type 0 where
  pub entry : Entry
  pub local : local_of entry.local ≡ local_in (entry_at old g)
  pub kept : entry.kept ≡ rows_in (entry_at old g)
  pub back : IsBack old new g w.cid (suspended entry w)

pub record HasWoken (old new : Held) (g : Gxid) (found : Option Suspended) : Type 0 where
  pub entry : Entry
  pub local : local_of entry.local ≡ local_in (entry_at old g)
  pub kept : entry.kept ≡ rows_in (entry_at old g)
  pub waiting : found ≡ entry.local.suspended
  pub here : entry_at new g ≡ Some (woken entry)
  pub entries : (h : Gxid) → h.0 ≢ g.0 → entry_at new h ≡ entry_at old h
  pub store : new.store ≡ old.store
  pub locks : new.locks ≡ old.locks
  pub holders : new.holders ≡ old.holders
