-- Horizons: what stands below one counts as ended, so nobody below it may still be needed.
use Rattle.std.specs.Prelude.{◌≡◌, ◌⊎◌, ◌≤◌, ◌<◌, ◌||◌, ℕ, true, false, List, [], ◌∷◌, None, Some}
use Rattle.std.specs.declared.option.Option.{Option}
use Rattle.gx_ids.specs.declared.ids.Cid.{Cid}
use Rattle.gx_ids.specs.declared.ids.Gxid.{Gxid}
use Rattle.gx_ids.specs.declared.ids.Node.{Node}
use Rattle.gx_dsnap.specs.Gxids.{is_below}
use Rattle.gx_dsnap.specs.Snapshot.{sees}
use Rattle.gx_dtx.specs.Table.{find_txn, horizon_of}
use Rattle.gx_dtx.specs.declared.txn.Txn.{Txn}
use Rattle.gx_msg.specs.declared.message.Message.{Message}
use Rattle.gx_msg.specs.declared.message.Message.TheVariants as message
use Rattle.gx_store.specs.Marks.{is_aborted, is_ended}
use Rattle.gx_store.specs.Points.{marks_in}
use Rattle.gx_rules.specs.AtSegment.{raised}
use Rattle.gx_rules.specs.Machine.{Letter, World}
use Rattle.gx_rules.specs.Segments.{Local, Suspended, local_of}

-- the horizon of a command is at or below a limit
abbrev pub IsLowIn : Gxid → Message → Type 0
IsLowIn limit (message.Exec g c level snapshot horizon slice) = horizon.0 ≤ limit.0
IsLowIn limit _ = Unit {0}

abbrev pub AreLowIn : Gxid → List Letter → Type 0
AreLowIn limit [] = Unit {0}
AreLowIn limit (letter ∷ letters) = IsLowIn limit letter.envelope.message × AreLowIn limit letters

-- No horizon is above that of the coordinator's transactions, and so above one that runs or that a participant hasn't
-- forgotten, nor above the xmin of a live snapshot; and whoever is below has ended.
pub record AreHorizonsLow (w : World) : Type 0 where
  pub sent : AreLowIn (horizon_of w.coord.table) w.sent
  pub segments : (i : ℕ) → (w.segs i).horizon.0 ≤ (horizon_of w.coord.table).0
  pub known : (g : Gxid) (t : Txn) → find_txn w.coord.table g ≡ Some t → (horizon_of w.coord.table).0 ≤ g.0
  pub live : (g : Gxid) (t : Txn) (xmin : Gxid) → find_txn w.coord.table g ≡ Some t → t.live ≡ Some xmin → (horizon_of w.coord.table).0 ≤ xmin.0
  pub ended : (h : Gxid) → 1 ≤ h.0 → is_below (horizon_of w.coord.table) h ≡ true → is_ended (marks_in w.steps) h ≡ true

-- a slice of the command waits
abbrev pub IsWaitingAs : Cid → Option Suspended → Type 0
IsWaitingAs c None = ⊥
IsWaitingAs c (Some waiting) = waiting.cid.0 ≡ c.0

-- the command is new to the node, or its slice waits there
abbrev pub IsNewOrWaits : Local → Cid → Type 0
IsNewOrWaits l c = (l.last < c.0) ⊎ IsWaitingAs c l.suspended

-- the node has still to run the command, whose transaction wasn't aborted
pub record IsToRun (w : World) (node : Node) (g : Gxid) (c : Cid) : Type 0 where
  pub unaborted : is_aborted (marks_in w.steps) g ≡ false
  pub new : IsNewOrWaits (local_of (w.segs node.0) g) c

-- Such a command sees whoever is below the horizon that the node then has, unless it has no snapshot: LOCK TABLE has none, and
-- sees nothing.
abbrev pub IsSeenBelow : World → Node → Message → Type 0
IsSeenBelow w node (message.Exec g c level (Some snapshot) horizon slice) =
    IsToRun w node g c → (h : Gxid) → 1 ≤ h.0 → (is_below (raised (w.segs node.0) horizon).horizon h || sees snapshot h) ≡ sees snapshot h
IsSeenBelow w node _ = Unit {0}

-- of each command that was ever sent
abbrev pub IsNobodyDropped : World → List Letter → Type 0
IsNobodyDropped w [] = Unit {0}
IsNobodyDropped w (letter ∷ letters) = IsSeenBelow w letter.to letter.envelope.message × IsNobodyDropped w letters

-- the horizon of the coordinator's transactions never falls
abbrev pub HasRisen : World → World → Type 0
HasRisen w late = (horizon_of w.coord.table).0 ≤ (horizon_of late.coord.table).0
