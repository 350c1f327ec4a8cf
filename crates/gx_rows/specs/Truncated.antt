-- What a raised horizon takes out.
use Rattle.std.specs.Prelude.{◌≡◌, Bool, ◌&&◌, nat_le, nat_lt, if◌then◌else◌, Option, None, Some, option_and_then}
use Rattle.gx_ids.specs.declared.ids.Gxid.{Gxid}
use Rattle.gx_ids.specs.declared.ids.Lxid.{Lxid}
use Rattle.gx_rows.specs.Counts.{is_committed}
use Rattle.gx_rows.specs.Xids.{Xids, entry_of, gxid_of, kept, lxid_of, status_of}
use Rattle.gx_rows.specs.declared.entry.XidEntry.{XidEntry}

-- the horizon passes the entry's gxid, and its transaction has committed
abbrev pub goes : Xids → Gxid → XidEntry → Bool
goes x h e = nat_le x.horizon.0 e.gxid.0 && (nat_lt e.gxid.0 h.0 && is_committed e.status)

abbrev pub unless_it_goes : Xids → Gxid → Option XidEntry → Option XidEntry
unless_it_goes x h None = None
unless_it_goes x h (Some e) = if goes x h e then None else Some e

-- No gxid is known below the horizon any more, the entries of those that it passes and that have committed are gone, and no others. Every
-- status stays.
pub record IsTruncated (x : Xids) (h : Gxid) (x' : Xids) : Type 0 where
  pub horizon : x'.horizon ≡ (if nat_lt x.horizon.0 h.0 then h else x.horizon)
  pub entries : (l : Lxid) → entry_of x' l ≡ unless_it_goes x h (entry_of x l)
  pub gxids : (l : Lxid) → gxid_of x' l ≡ option_and_then (kept h) (gxid_of x l)
  pub lxids : (g : Gxid) → lxid_of x' g ≡ (if nat_lt g.0 h.0 then None else lxid_of x g)
  pub statuses : (l : Lxid) → status_of x' l ≡ status_of x l
  pub given : x'.given ≡ x.given
