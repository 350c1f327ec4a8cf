-- How both nodes take locks, and how they give them back.
use Rattle.std.specs.Prelude.{List, [], ◌∷◌, ◌++◌, filter, map}
use Rattle.std.specs.Ordering.{nat_cmp, ordering_then}
use Rattle.std.specs.declared.cmp.Ordering.{Ordering}
use Rattle.gx_ids.specs.declared.ids.Gxid.{Gxid}
use Rattle.gx_ids.specs.declared.ids.Node.{Node}
use Rattle.gx_modes.specs.Table.{number_of}
use Rattle.gx_waits.specs.contracts.object.ObjectOrd.TheImpl as object
use Rattle.gx_waits.specs.declared.claim.Claim.{Claim}
use Rattle.gx_waits.specs.Claims.{is_of, with_claim, without, without_claim}
use Rattle.gx_locks.specs.Locks.{Locks}
use Rattle.gx_meaning.specs.Order.{in_order}
use Rattle.gx_store.specs.declared.mark.Mark.{Mark}
use Rattle.gx_store.specs.declared.mark.Mark.TheVariants as mark

abbrev pub hold_mark : Node → Claim → Mark
hold_mark node claim = mark.Hold node claim.gxid claim.object claim.mode

abbrev pub wait_mark : Node → Claim → Mark
wait_mark node claim = mark.Wait node claim.gxid claim.object claim.mode

abbrev pub release_mark : Node → Claim → Mark
release_mark node claim = mark.Release node claim.gxid claim.object claim.mode

-- a request that is granted, and one that stands as a wait
abbrev pub with_hold : Locks → Claim → Locks
with_hold locks claim = record locks { holds = with_claim claim locks.holds }

abbrev pub with_wait : Locks → Claim → Locks
with_wait locks claim = record locks { waits = locks.waits ++ claim ∷ [] }

-- a hold that is given back
abbrev pub without_hold : Locks → Claim → Locks
without_hold locks claim = record locks { holds = without_claim claim locks.holds }

-- IN ORDER
-- relations by table, then rows by identity, then transactions by gxid; on one object by mode
abbrev pub claim_order : Claim → Claim → Ordering
claim_order a b = ordering_then (object.ghosts.cmp a.object b.object) (nat_cmp (number_of a.mode) (number_of b.mode))

-- GIVEN BACK
-- all that a transaction has at a node: its wait is dropped, then its holds go, in order
abbrev pub has_there : Locks → Gxid → List Claim
has_there locks g = filter (is_of g) locks.waits ++ in_order claim_order (filter (is_of g) locks.holds)

abbrev pub release_marks : Node → Locks → Gxid → List Mark
release_marks node locks g = map (release_mark node) (has_there locks g)

abbrev pub released : Locks → Gxid → Locks
released locks g = record locks { holds = without g locks.holds; waits = without g locks.waits }
