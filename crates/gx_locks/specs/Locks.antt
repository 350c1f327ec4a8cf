-- The locks at one node: who holds what, and who waits for what (PostgreSQL manual, 13.3).
use Rattle.std.specs.Prelude.{◌≡◌, ◌≤◌, Bool, false, true, List, [], ◌∷◌, ◌++◌, filter, map, if◌then◌else◌, find, Option, None, Some, Contains, All, nat_lt}
use Rattle.gx_ids.specs.declared.ids.Gxid.{Gxid}
use Rattle.gx_ids.specs.declared.ids.Node.{Node}
use Rattle.gx_waits.specs.declared.claim.Claim.{Claim}
use Rattle.gx_locks.specs.declared.answer.LockAnswer.{LockAnswer}
use Rattle.gx_locks.specs.declared.answer.LockAnswer.TheVariants.{Granted, Waits}
use Rattle.gx_waits.specs.Claim.{in_the_way, meets}
use Rattle.gx_waits.specs.Claims.{is_clear, is_of, with_claim, without}
use Rattle.gx_locks.specs.Claims.{gxid_cmp}
use Rattle.std.specs.List.Sorted.{IsStrictlySortedBy}

-- the holds and the standing waits, each in the order in which they came
pub record Locks : Type 0 where
  pub node : Node
  pub holds : List Claim
  pub waits : List Claim

-- the transactions that a claim meets among these
abbrev pub blockers : List Claim → Claim → List Gxid
blockers claims claim = map (λ other. other.gxid) (filter (meets claim) claims)

-- the transactions whose waits are ready, by wait
abbrev pub ready_ones : Locks → List Gxid
ready_ones locks = map (λ wait. wait.gxid) (filter (is_clear locks.holds locks.waits) locks.waits)

-- the lesser of two
abbrev pub lesser : Gxid → Gxid → Gxid
lesser g h = if nat_lt h.0 g.0 then h else g

-- the least of the list and one more
abbrev pub least_of : List Gxid → Gxid → Gxid
least_of [] h = h
least_of (g ∷ gs) h = least_of gs (lesser g h)

-- the least of what was seen and the list
abbrev pub least_with : Option Gxid → List Gxid → Option Gxid
least_with None [] = None
least_with None (g ∷ gs) = Some (least_of gs g)
least_with (Some h) gs = Some (least_of gs h)

-- nothing of an empty list, and else the least of its members
abbrev pub IsLeast : Option Gxid → List Gxid → Type 0
IsLeast None gs = gs ≡ []
IsLeast (Some g) gs = Contains gs g × All (λ h. g.0 ≤ h.0) gs

-- the wait of a transaction
abbrev pub wait_of : Locks → Gxid → Option Claim
wait_of locks g = find (is_of g) locks.waits

-- whether it is ready
abbrev pub is_ready : Locks → Option Claim → Bool
is_ready locks None = false
is_ready locks (Some wait) = is_clear locks.holds locks.waits wait

-- a transaction may take what it waits for
abbrev pub may_take : Locks → Gxid → Bool
may_take locks g = is_ready locks (wait_of locks g)

-- the least transaction that may, where there is one
abbrev pub next_ready : Locks → Option Gxid
next_ready locks = least_with None (ready_ones locks)

-- the wait of a transaction is held, where it has one
abbrev pub resumed : Locks → Gxid → Option Claim → Locks
resumed locks g None = locks
resumed locks g (Some wait) = record locks { holds = with_claim wait locks.holds; waits = without g locks.waits }

-- the gxids rise and are those of the list
pub record AreRisen (gxids all : List Gxid) : Type 0 where
  pub rising : IsStrictlySortedBy gxid_cmp gxids
  pub all_of_them : (g : Gxid) → Contains all g → Contains gxids g
  pub no_others : (g : Gxid) → Contains gxids g → Contains all g

-- what came of a request: it is granted exactly where its way is clear; else it stands as the last wait
abbrev pub IsAnswer : Locks → Claim → LockAnswer → Locks → Type 0
IsAnswer old claim Granted new = (is_clear old.holds old.waits claim ≡ true) × (new ≡ record old { holds = with_claim claim old.holds })
IsAnswer old claim (Waits gxids) new = (is_clear old.holds old.waits claim ≡ false) × (AreRisen gxids (blockers (in_the_way old.holds old.waits claim) claim) × (new ≡ record old { waits = old.waits ++ claim ∷ [] }))
