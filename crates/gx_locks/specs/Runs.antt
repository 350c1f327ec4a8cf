-- Lists of calls, and the tables to which they lead.
use Rattle.std.specs.Prelude.{◌≡◌, false, true, List, [], ◌∷◌}
use Rattle.std.specs.List.{list_any}
use Rattle.gx_ids.specs.declared.ids.Gxid.{Gxid}
use Rattle.gx_waits.specs.declared.claim.Claim.{Claim}
use Rattle.gx_locks.specs.declared.answer.LockAnswer.{LockAnswer}
use Rattle.gx_waits.specs.Claims.{is_free, is_of, with_claim, without, without_claim}
use Rattle.gx_locks.specs.Kept.{AreExclusive, AreOnce, WaitOnce}
use Rattle.gx_locks.specs.Locks.{IsAnswer, Locks, may_take, resumed, wait_of}

-- a call that may change the table
pub data Call : Type 0 where
  Request : (claim : Claim) (answer : LockAnswer) → Call
  Take : (claim : Claim) → Call
  Resume : (gxid : Gxid) → Call
  Release : (claim : Claim) → Call
  ReleaseAll : (gxid : Gxid) → Call

-- the call may be made, and this is what it makes of the table
abbrev pub IsStep : Locks → Call → Locks → Type 0
IsStep old (Request claim answer) new = (list_any (is_of claim.gxid) old.waits ≡ false) × IsAnswer old claim answer new
IsStep old (Take claim) new = (is_free old.holds claim ≡ true) × (new ≡ record old { holds = with_claim claim old.holds })
IsStep old (Resume g) new = (may_take old g ≡ true) × (new ≡ resumed old g (wait_of old g))
IsStep old (Release claim) new = new ≡ record old { holds = without_claim claim old.holds }
IsStep old (ReleaseAll g) new = new ≡ record old { holds = without g old.holds; waits = without g old.waits }

-- the calls lead from a table without locks to this one; the last call stands first
abbrev pub IsRun : List Call → Locks → Type 0
IsRun [] locks = (locks.holds ≡ []) × (locks.waits ≡ [])
IsRun (call ∷ before) locks = (old : Locks) × IsRun before old × IsStep old call locks

-- no two holds of different transactions conflict, none stands twice, and no transaction waits twice
pub record IsSound (locks : Locks) : Type 0 where
  pub exclusive : AreExclusive locks.holds
  pub held_once : AreOnce locks.holds
  pub wait_once : WaitOnce locks.waits
