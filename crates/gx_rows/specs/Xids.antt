-- What a segment knows of the transactions that wrote there.
use Rattle.std.specs.Prelude.{ℕ, ◌+◌, List, ◌&&◌, Bool, nat_le, nat_lt, if◌then◌else◌, Option, None, Some, option_and_then}
use Rattle.std.specs.declared.cmp.Ordering.{Ordering}
use Rattle.std.specs.Ordering.{nat_cmp}
use Rattle.std.specs.Map.{lookup, set_value}
use Rattle.std.specs.BTreeMap.{is_at, insert_entry}
use Rattle.gx_ids.specs.declared.ids.Gxid.{Gxid}
use Rattle.gx_ids.specs.declared.ids.Lxid.{Lxid}
use Rattle.gx_rows.specs.declared.entry.XidEntry.{XidEntry}
use Rattle.gx_rows.specs.declared.status.LocalStatus.{LocalStatus}
use Rattle.gx_rows.specs.declared.status.LocalStatus.TheVariants.{Running, Committed}

-- by number
abbrev pub gxid_cmp : Gxid → Gxid → Ordering
gxid_cmp g h = nat_cmp g.0 h.0

abbrev pub lxid_cmp : Lxid → Lxid → Ordering
lxid_cmp l m = nat_cmp l.0 m.0

-- the lxids of the gxids from the horizon on; the entries of those lxids, and of others that hadn't committed when the horizon passed
-- them; and how many lxids were given out, which count from 1
pub record Xids : Type 0 where
  pub horizon : Gxid
  pub lxids : List (Gxid × Lxid)
  pub entries : List (Lxid × XidEntry)
  pub given : ℕ

-- the lxid was given out
abbrev pub is_given : Xids → Lxid → Bool
is_given x l = nat_lt 0 l.0 && nat_le l.0 x.given

-- g, unless it is below the horizon
abbrev pub kept : Gxid → Gxid → Option Gxid
kept horizon g = if nat_lt g.0 horizon.0 then None else Some g

abbrev pub entry_of : Xids → Lxid → Option XidEntry
entry_of x l = lookup (is_at (lxid_cmp l)) x.entries

-- the gxid of an lxid, from the horizon on
abbrev pub gxid_of : Xids → Lxid → Option Gxid
gxid_of x l = option_and_then (λ e. kept x.horizon e.gxid) (entry_of x l)

-- the lxid of a gxid, from the horizon on
abbrev pub lxid_of : Xids → Gxid → Option Lxid
lxid_of x g = lookup (is_at (gxid_cmp g)) x.lxids

abbrev pub status_in : Bool → Option XidEntry → LocalStatus
status_in given (Some e) = e.status
status_in given None = if given then Committed else Running

-- the status last set; who was given out and has no entry any more has committed
abbrev pub status_of : Xids → Lxid → LocalStatus
status_of x l = status_in (is_given x l) (entry_of x l)

-- the next lxid
abbrev pub next_lxid : Xids → Lxid
next_lxid x = record { 0 = x.given + 1 }

-- with one transaction more, at the next lxid
abbrev pub assigned : Xids → Gxid → Xids
assigned x g = record x {
  lxids = insert_entry gxid_cmp x.lxids g (next_lxid x);
  entries = insert_entry lxid_cmp x.entries (next_lxid x) (record { gxid = g; status = Running });
  given = x.given + 1;
}

abbrev pub with_entry : Lxid → LocalStatus → Option XidEntry → List (Lxid × XidEntry) → List (Lxid × XidEntry)
with_entry l s None es = es
with_entry l s (Some e) es = set_value (is_at (lxid_cmp l)) es (record e { status = s })

-- with this status of an lxid that has an entry
abbrev pub with_status : Xids → Lxid → LocalStatus → Xids
with_status x l s = record x { entries = with_entry l s (entry_of x l) x.entries }
