-- The coordinator's transactions as plain data, and what is read from them.
use Rattle.std.specs.Prelude.{◌≡◌, Bool, true, false, ◌&&◌, not, List, [], ◌∷◌, nat_lt, map, filter, Option, None, Some, option_map}
use Rattle.std.specs.List.{flat_map}
use Rattle.std.specs.Map.{lookup}
use Rattle.std.specs.BTreeMap.{is_at}
use Rattle.gx_ids.specs.declared.ids.Gxid.{Gxid}
use Rattle.gx_ids.specs.declared.ids.Node.{Node}
use Rattle.gx_dsnap.specs.Gxids.{gxid_cmp, is_below, after_ended, first_or, least_of}
use Rattle.gx_dsnap.specs.declared.snapshot.Snapshot.{Snapshot}
use Rattle.gx_dtx.specs.declared.phase.Phase.{Phase}
use Rattle.gx_dtx.specs.declared.phase.Phase.TheVariants.{Active, Preparing, CommittingOne, CommittingTwo, Ended, Aborting}
use Rattle.gx_dtx.specs.declared.status.Status.{Status}
use Rattle.gx_dtx.specs.declared.status.Status.TheVariants as status
use Rattle.gx_dtx.specs.declared.txn.Txn.{Txn}

-- the gxid that is drawn next, the greatest gxid that has ended, and the transactions by gxid, rising; one that
-- every participant has forgotten, or that has ended by an abort, isn't among them any more
pub record Table : Type 0 where
  pub next : Gxid
  pub latest_ended : Option Gxid
  pub txns : List (Gxid × Txn)

-- no gxid was drawn yet; they count from 1
abbrev pub new_table : Table
new_table = record { next = record { 0 = 1 }; latest_ended = None; txns = [] }

-- a transaction that has begun
abbrev pub new_txn : Txn
new_txn = record { phase = Active; participants = []; live = None }

-- the transaction of this gxid
abbrev pub find_txn : Table → Gxid → Option Txn
find_txn d g = lookup (is_at (gxid_cmp g)) d.txns

abbrev pub status_in : Phase → Status
status_in Active = status.Active
status_in (Preparing _ _) = status.Preparing
status_in (CommittingOne _) = status.Committing
status_in (CommittingTwo _) = status.Committing
status_in (Ended _) = status.Ended
status_in (Aborting _) = status.Aborting

-- the status of a transaction, none where it wasn't drawn, or is ended and forgotten
abbrev pub status_of : Table → Gxid → Option Status
status_of d g = option_map (λ t. status_in t.phase) (find_txn d g)

abbrev pub IsActive : Table → Gxid → Type 0
IsActive d g = status_of d g ≡ Some status.Active

abbrev pub participants_in : Option Txn → List Node
participants_in None = []
participants_in (Some t) = t.participants

-- the segments that a command of the transaction was sent to
abbrev pub participants_of : Table → Gxid → List Node
participants_of d g = participants_in (find_txn d g)

-- a transaction is running from its drawing until it has ended
abbrev pub is_running : Phase → Bool
is_running (Ended _) = false
is_running _ = true

abbrev pub runs : Option Txn → Bool
runs None = false
runs (Some t) = is_running t.phase

-- a transaction is active while its commands run
abbrev pub is_active : Phase → Bool
is_active Active = true
is_active _ = false

-- whether a transaction was drawn and isn't running any more
abbrev pub has_ended : Table → Gxid → Bool
has_ended d g = (nat_lt 0 g.0 && is_below d.next g) && not (runs (find_txn d g))

-- the running gxids, rising
abbrev pub running_of : Table → List Gxid
running_of d = map (λ e. e.0) (filter (λ e. is_running e.1.phase) d.txns)

-- the active gxids, rising
abbrev pub active_of : Table → List Gxid
active_of d = map (λ e. e.0) (filter (λ e. is_active e.1.phase) d.txns)

-- a snapshot taken now: one more than the greatest gxid that has ended, or 1 where none has
abbrev pub xmax_of : Table → Gxid
xmax_of d = after_ended d.latest_ended

-- the running gxids below it, rising
abbrev pub listed_of : Table → List Gxid
listed_of d = filter (is_below (xmax_of d)) (running_of d)

-- the least of these, or xmax where there is none
abbrev pub xmin_of : Table → Gxid
xmin_of d = first_or (listed_of d) (xmax_of d)

abbrev pub live_xmin : Option Gxid → List Gxid
live_xmin None = []
live_xmin (Some x) = x ∷ []

-- a snapshot that was taken of this table
pub record IsTaken (d : Table) (snap : Snapshot) : Type 0 where
  pub xmax : snap.xmax ≡ xmax_of d
  pub running : snap.running ≡ listed_of d
  pub xmin : snap.xmin ≡ xmin_of d

-- what a transaction holds the horizon at or below: itself, since it runs or isn't forgotten by everybody, and the
-- xmin of its live snapshot
abbrev pub holds_back : Gxid × Txn → List Gxid
holds_back e = e.0 ∷ live_xmin e.1.live

-- the least of the running gxids, of those that have ended and that not every participant has forgotten, of the xmin
-- of each live snapshot and of the next gxid
abbrev pub horizon_of : Table → Gxid
horizon_of d = least_of (flat_map holds_back d.txns) d.next
