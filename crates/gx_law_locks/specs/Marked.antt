-- What the nodes hold and wait for, and what stands by the marks; and how waits begin.
use Rattle.std.specs.Prelude.{◌≡◌, ◌≤◌, ℕ, false, List, [], ◌∷◌, ◌++◌}
use Rattle.std.specs.List.{list_any}
use Rattle.gx_ids.specs.declared.ids.Node.{Node}
use Rattle.gx_waits.specs.declared.claim.Claim.{Claim}
use Rattle.gx_waits.specs.Claims.{claim, is_of}
use Rattle.gx_locks.specs.Locks.{Locks}
use Rattle.gx_store.specs.declared.mark.Mark.{Mark}
use Rattle.gx_store.specs.declared.mark.Mark.TheVariants.{Wait}
use Rattle.gx_store.specs.Locks.{LegalWait}
use Rattle.gx_store.specs.Points.{marks_in}
use Rattle.gx_store.specs.Refusals.{the_coordinator}
use Rattle.gx_store.specs.Waits.{holds_at, waits_at}
use Rattle.gx_rules.specs.Machine.{World}

-- a node's holds and waits are those that stand by the marks, in order
pub record IsMarked (marks : List Mark) (node : Node) (locks : Locks) : Type 0 where
  pub holds : locks.holds ≡ holds_at marks node
  pub waits : locks.waits ≡ waits_at marks node

pub record AreLocksMarked (w : World) : Type 0 where
  pub coordinator : IsMarked (marks_in w.steps) the_coordinator w.coord.locks
  pub segments : (i : ℕ) → 1 ≤ i → IsMarked (marks_in w.steps) (record { 0 = i }) (w.segs i).locks

-- who begins to wait at a node meets somebody there, who holds or waits ahead, and has no other wait there
pub record IsWaitLegal (marks : List Mark) (node : Node) (wanted : Claim) : Type 0 where
  pub meets : LegalWait marks node wanted
  pub alone : list_any (is_of wanted.gxid) (waits_at marks node) ≡ false

-- so does whoever begins to wait among these marks, behind those before
abbrev pub AreWaitsLegal : List Mark → List Mark → Type 0
AreWaitsLegal before [] = Unit {0}
AreWaitsLegal before (Wait n g object mode ∷ ms) = IsWaitLegal before n (claim g object mode) × AreWaitsLegal (before ++ Wait n g object mode ∷ []) ms
AreWaitsLegal before (m ∷ ms) = AreWaitsLegal (before ++ m ∷ []) ms
