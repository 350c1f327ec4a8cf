-- How the map keeps its entries.
use Rattle.std.specs.Prelude.{◌≡◌, ℕ, ◌<◌, ◌≤◌, Bool, true, false, ◌&&◌, if◌then◌else◌, Option, None, Some}
use Rattle.std.specs.BTreeMap.{BTreeMap, get, is_at}
use Rattle.gx_ids.specs.declared.ids.Gxid.{Gxid}
use Rattle.gx_ids.specs.declared.ids.Lxid.{Lxid}
use Rattle.gx_rows.specs.Counts.{is_committed}
use Rattle.gx_rows.specs.Xids.{gxid_cmp, lxid_cmp}
use Rattle.gx_rows.specs.declared.entry.XidEntry.{XidEntry}
use Rattle.gx_rows.specs.declared.status.LocalStatus.{LocalStatus}

-- the entry at an lxid, of this gxid
pub record HasEntry (entries : BTreeMap Lxid XidEntry) (g : Gxid) (l : Lxid) : Type 0 where
  pub entry : XidEntry
  pub there : get lxid_cmp entries l ≡ Some entry
  pub gxid : entry.gxid ≡ g

-- Each lxid has its entry, each entry of a gxid from the horizon on its lxid; no lxid is of a gxid below it, and each entry's lxid was
-- given out.
pub record IsWhole (horizon : Gxid) (lxids : BTreeMap Gxid Lxid) (entries : BTreeMap Lxid XidEntry) (given : ℕ) : Type 0 where
  pub there : (g : Gxid) (l : Lxid) → get gxid_cmp lxids g ≡ Some l → HasEntry entries g l
  pub back : (l : Lxid) (e : XidEntry) → get lxid_cmp entries l ≡ Some e → horizon.0 ≤ e.gxid.0 → get gxid_cmp lxids e.gxid ≡ Some l
  pub high : (g : Gxid) (l : Lxid) → get gxid_cmp lxids g ≡ Some l → horizon.0 ≤ g.0
  pub inside : (l : Lxid) (e : XidEntry) → get lxid_cmp entries l ≡ Some e → (0 < l.0) × (l.0 ≤ given)

abbrev pub is_done : Option XidEntry → Bool
is_done None = false
is_done (Some e) = is_committed e.status

-- The lxids of gxids from here on are left. The entries of those whose lxids are gone and that have committed are gone too, and no others.
pub record AreLeft (lxids : BTreeMap Gxid Lxid) (entries : BTreeMap Lxid XidEntry) (horizon : Gxid) (lxids' : BTreeMap Gxid Lxid) (entries' : BTreeMap Lxid XidEntry) : Type 0 where
  pub same : (g : Gxid) → horizon.0 ≤ g.0 → get gxid_cmp lxids' g ≡ get gxid_cmp lxids g
  pub old_lxids : (g : Gxid) (l : Lxid) → get gxid_cmp lxids' g ≡ Some l → get gxid_cmp lxids g ≡ Some l
  pub old : (l : Lxid) (e : XidEntry) → get lxid_cmp entries' l ≡ Some e → get lxid_cmp entries l ≡ Some e
  pub high : (l : Lxid) (e : XidEntry) → horizon.0 ≤ e.gxid.0 → get lxid_cmp entries l ≡ Some e → get lxid_cmp entries' l ≡ Some e
  pub open_there : (l : Lxid) (e : XidEntry) → is_committed e.status ≡ false → get lxid_cmp entries l ≡ Some e → get lxid_cmp entries' l ≡ Some e
  pub unlisted : (l : Lxid) (e : XidEntry) → (get gxid_cmp lxids e.gxid ≡ Some l → ⊥) → get lxid_cmp entries l ≡ Some e → get lxid_cmp entries' l ≡ Some e
  pub gone : (g : Gxid) (l : Lxid) → get gxid_cmp lxids g ≡ Some l → get gxid_cmp lxids' g ≡ None → is_done (get lxid_cmp entries l) ≡ true → get lxid_cmp entries' l ≡ None

-- without the entry of an lxid, if it has committed
abbrev pub IsForgotten : Lxid → BTreeMap Lxid XidEntry → BTreeMap Lxid XidEntry → Type 0
IsForgotten l m n = (k : Lxid) → get lxid_cmp n k ≡ (if is_at (lxid_cmp l) k && is_done (get lxid_cmp m l) then None else get lxid_cmp m k)

abbrev pub restated : LocalStatus → Option XidEntry → Option XidEntry
restated s None = None
restated s (Some e) = Some (record e { status = s })

-- with this status at an lxid, if it has an entry
abbrev pub IsRestated : Lxid → LocalStatus → BTreeMap Lxid XidEntry → BTreeMap Lxid XidEntry → Type 0
IsRestated l s m n = (k : Lxid) → get lxid_cmp n k ≡ (if is_at (lxid_cmp l) k then restated s (get lxid_cmp m l) else get lxid_cmp m k)
