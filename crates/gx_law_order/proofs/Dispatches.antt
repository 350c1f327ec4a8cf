-- The ways of a statement at the coordinator: it goes out without a lock, or with it, or waits for it; and one that has waited goes
-- out with it.
use Rattle.std.proofs.Common.{◌≡◌, [], ◌∷◌, Option, Some, None, Bool, true, false, refl}
use Rattle.gx_ids.specs.declared.ids.Gxid.{Gxid}
use Rattle.gx_tree.specs.declared.stmt.Stmt.{Stmt}
use Rattle.gx_waits.specs.declared.claim.Claim.{Claim}
use Rattle.gx_locks.specs.Locks.{resumed, wait_of}
use Rattle.gx_waits.specs.Claims.{is_clear}
use Rattle.gx_script.specs.declared.Script.{Script}
use Rattle.gx_store.specs.Refusals.{the_coordinator}
use Rattle.gx_rules.specs.AtCoordinator.{behind, dispatches, goes_on_locked, if_granted, requests, resumes, waits_for}
use Rattle.gx_store.specs.Locks.{table_lock}
use Rattle.gx_rules.specs.Coordinators.{Coord, CoordTurn, rests, with_work, work_of}
use Rattle.gx_rules.specs.Locks.{hold_mark, with_hold}

-- a statement that starts
abbrev pub with_lock : Script → Coord → Gxid → Stmt → Claim → CoordTurn
with_lock script c g line wanted = behind (hold_mark the_coordinator wanted ∷ []) (goes_on_locked script (record c { locks = with_hold c.locks wanted }) g line)

pub dispatch-ways : (P : CoordTurn → Type 0) (script : Script) (c : Coord) (g : Gxid) (line : Stmt) → (table_lock script g line ≡ None → P (goes_on_locked script c g line)) → ((wanted : Claim) → table_lock script g line ≡ Some wanted → is_clear c.locks.holds c.locks.waits wanted ≡ true → P (with_lock script c g line wanted)) → ((wanted : Claim) → table_lock script g line ≡ Some wanted → is_clear c.locks.holds c.locks.waits wanted ≡ false → P (waits_for c g line wanted)) → P (dispatches script c g line)
dispatch-ways P script c g line alone locked waits = by_lock (table_lock script g line) refl
  where
    by_test : (wanted : Claim) (b : Bool) → table_lock script g line ≡ Some wanted → is_clear c.locks.holds c.locks.waits wanted ≡ b → P (if_granted script c g line wanted b)
    by_test wanted true e f = locked wanted e f
    by_test wanted false e f = waits wanted e f

    by_lock : (o : Option Claim) → table_lock script g line ≡ o → P (requests script c g line o)
    by_lock None e = alone e
    by_lock (Some wanted) e = by_test wanted (is_clear c.locks.holds c.locks.waits wanted) e refl

-- a statement that has waited
abbrev pub without_wait : Coord → Gxid → Claim → Coord
without_wait c g wanted = with_work (record c { locks = resumed c.locks g (Some wanted) }) g (record (work_of c g) { waiting = None })

abbrev pub out_of_wait : Script → Coord → Gxid → Stmt → Claim → CoordTurn
out_of_wait script c g line wanted = behind (hold_mark the_coordinator wanted ∷ []) (goes_on_locked script (without_wait c g wanted) g line)

pub resume-ways : (P : CoordTurn → Type 0) (script : Script) (c : Coord) (g : Gxid) → P (rests c) → ((wanted : Claim) (line : Stmt) → wait_of c.locks g ≡ Some wanted → (work_of c g).waiting ≡ Some line → P (out_of_wait script c g line wanted)) → P (resumes script c g (wait_of c.locks g) (work_of c g).waiting)
resume-ways P script c g rest out = by_both (wait_of c.locks g) (work_of c g).waiting refl refl
  where
    by_both : (o : Option Claim) (w : Option Stmt) → wait_of c.locks g ≡ o → (work_of c g).waiting ≡ w → P (resumes script c g o w)
    by_both None w e f = rest
    by_both (Some wanted) None e f = rest
    by_both (Some wanted) (Some line) e f = out wanted line e f
