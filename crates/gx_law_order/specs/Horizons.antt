-- What is below a horizon counts as ended and seen by all: no horizon may be above what somebody still needs.
use Rattle.std.specs.Prelude.{◌≡◌, ◌≤◌, ℕ, true, List, [], ◌∷◌, Some}
use Rattle.gx_ids.specs.declared.ids.Gxid.{Gxid}
use Rattle.gx_dtx.specs.Table.{Table, find_txn, xmax_of}
use Rattle.gx_dtx.specs.declared.txn.Txn.{Txn}
use Rattle.gx_msg.specs.declared.message.Message.{Message}
use Rattle.gx_msg.specs.declared.message.Message.TheVariants as message
use Rattle.gx_rules.specs.Fits.{holds_locks}
use Rattle.gx_rules.specs.Machine.{Letter, World}
use Rattle.gx_rules.specs.Segments.{Seg}
use Rattle.gx_law_order.specs.Standings.{gx}

-- a horizon is at or below each transaction that runs or that somebody has not forgotten, the xmin of each live snapshot, and
-- the gxids that are drawn next, and all that a snapshot taken now doesn't see
pub record IsLow (horizon : ℕ) (d : Table) : Type 0 where
  pub next : horizon ≤ d.next.0
  pub taken : horizon ≤ (xmax_of d).0
  pub kept : (g : ℕ) (t : Txn) → find_txn d (gx g) ≡ Some t → horizon ≤ g
  pub live : (g : ℕ) (t : Txn) (x : Gxid) → find_txn d (gx g) ≡ Some t → t.live ≡ Some x → horizon ≤ x.0

-- the horizon of a command
abbrev pub IsLowIn : Table → Message → Type 0
IsLowIn d (message.Exec g c level snapshot horizon slice) = IsLow horizon.0 d
IsLowIn d _ = Unit {0}

abbrev pub AreLowIn : Table → List Letter → Type 0
AreLowIn d [] = Unit {0}
AreLowIn d (letter ∷ letters) = IsLowIn d letter.envelope.message × AreLowIn d letters

-- that of each segment, and of each command that was ever sent
pub record AreHorizonsLow (w : World) : Type 0 where
  pub segments : (i : ℕ) → IsLow (w.segs i).horizon.0 w.coord.table
  pub commands : AreLowIn w.coord.table w.sent

-- nor above a transaction that holds locks at the segment, for which the segment would refuse a command
abbrev pub IsBelowHolders : Seg → ℕ → Type 0
IsBelowHolders s horizon = (g : ℕ) → holds_locks (s.locals g) ≡ true → horizon ≤ g

abbrev pub IsBelowIn : Seg → Message → Type 0
IsBelowIn s (message.Exec g c level snapshot horizon slice) = IsBelowHolders s horizon.0
IsBelowIn s _ = Unit {0}

abbrev pub AreBelowIn : (ℕ → Seg) → List Letter → Type 0
AreBelowIn segs [] = Unit {0}
AreBelowIn segs (letter ∷ letters) = IsBelowIn (segs letter.to.0) letter.envelope.message × AreBelowIn segs letters

pub record AreHoldersAbove (w : World) : Type 0 where
  pub segments : (i : ℕ) → IsBelowHolders (w.segs i) (w.segs i).horizon.0
  pub commands : AreBelowIn w.segs w.sent
