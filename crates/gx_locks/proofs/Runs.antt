-- All that calls make of a table without locks is sound.
use Rattle.std.proofs.Common.{◌≡◌, ◌<◌, ℕ, List, [], ◌∷◌, ◌++◌, length, get_or, refl, sym, ap, subst, Bool, true, false, not, cond, eqb, arith}
use Rattle.std.proofs.lemmas.Bool.Decides.{nat_tests}
use Rattle.std.proofs.lemmas.List.Kept.{AllPairs-filter}
use Rattle.std.proofs.lemmas.List.Quantifiers.{all_pairs_push}
use Rattle.std.specs.Prelude.{filter, Option, None, Some}
use Rattle.std.specs.List.{list_any}
use Rattle.gx_ids.specs.declared.ids.Gxid.{Gxid}
use Rattle.gx_waits.specs.declared.claim.Claim.{Claim}
use Rattle.gx_locks.specs.declared.answer.LockAnswer.{LockAnswer}
use Rattle.gx_locks.specs.declared.answer.LockAnswer.TheVariants.{Granted, Waits}
use Rattle.gx_waits.specs.Claim.{meets, same_claim}
use Rattle.gx_waits.specs.Claims.{is_free, is_of, with_claim, without}
use Rattle.gx_locks.specs.Kept.{AreExclusive, AreOnce}
use Rattle.gx_locks.specs.Locks.{Locks, IsAnswer, is_ready, wait_of, resumed}
use Rattle.gx_locks.specs.Runs.{Call, Request, Take, Resume, Release, ReleaseAll, IsStep, IsRun, IsSound}
use Rattle.gx_locks.proofs.Ways.{clear-free}
use Rattle.gx_locks.proofs.Whole.{none_passes, free_is}

turned : (a b : Gxid) → eqb a.0 b.0 ≡ false → eqb b.0 a.0 ≡ false
turned a b other = grind (arith, nat_tests)

-- one hold more, which meets none
module _ (locks : Locks) (claim : Claim) (sound : IsSound locks) (free : is_free locks.holds claim ≡ true) where
  exclusive_more : AreExclusive (locks.holds ++ claim ∷ [])
  exclusive_more = all_pairs_push (λ earlier later. meets later earlier ≡ false) locks.holds claim sound.exclusive (λ k d inside. none_passes (meets claim) locks.holds k d (meets claim (get_or locks.holds k d)) refl (free_is (list_any (meets claim) locks.holds) free) inside)

  once_more : list_any (same_claim claim) locks.holds ≡ false → AreOnce (locks.holds ++ claim ∷ [])
  once_more new = all_pairs_push (λ earlier later. same_claim later earlier ≡ false) locks.holds claim sound.held_once (λ k d inside. none_passes (same_claim claim) locks.holds k d (same_claim claim (get_or locks.holds k d)) refl new inside)

  more : (b : Bool) → list_any (same_claim claim) locks.holds ≡ b → IsSound (record locks { holds = cond b locks.holds (locks.holds ++ claim ∷ []) })
  more true is = record { exclusive = sound.exclusive; held_once = sound.held_once; wait_once = sound.wait_once }
  more false isnt = record { exclusive = exclusive_more; held_once = once_more isnt; wait_once = sound.wait_once }

  pub IsSound-held : IsSound (record locks { holds = with_claim claim locks.holds })
  IsSound-held = more (list_any (same_claim claim) locks.holds) refl

-- one wait more, of a transaction that doesn't wait
pub IsSound-waits : (locks : Locks) (claim : Claim) → IsSound locks → list_any (is_of claim.gxid) locks.waits ≡ false → IsSound (record locks { waits = locks.waits ++ claim ∷ [] })
IsSound-waits locks claim sound none = record {
  exclusive = sound.exclusive;
  held_once = sound.held_once;
  wait_once = all_pairs_push (λ a b. is_of a.gxid b ≡ false) locks.waits claim sound.wait_once (λ k d inside. turned (get_or locks.waits k d).gxid claim.gxid (none_passes (is_of claim.gxid) locks.waits k d (is_of claim.gxid (get_or locks.waits k d)) refl none inside));
}

-- fewer holds, and fewer waits
pub IsSound-fewer_holds : (p : Claim → Bool) (locks : Locks) → IsSound locks → IsSound (record locks { holds = filter p locks.holds })
IsSound-fewer_holds p locks sound = record {
  exclusive = AllPairs-filter (λ earlier later. meets later earlier ≡ false) p locks.holds sound.exclusive;
  held_once = AllPairs-filter (λ earlier later. same_claim later earlier ≡ false) p locks.holds sound.held_once;
  wait_once = sound.wait_once;
}

pub IsSound-fewer_waits : (p : Claim → Bool) (locks : Locks) → IsSound locks → IsSound (record locks { waits = filter p locks.waits })
IsSound-fewer_waits p locks sound = record {
  exclusive = sound.exclusive;
  held_once = sound.held_once;
  wait_once = AllPairs-filter (λ a b. is_of a.gxid b ≡ false) p locks.waits sound.wait_once;
}

answered : (old new : Locks) (claim : Claim) (answer : LockAnswer) → IsSound old → list_any (is_of claim.gxid) old.waits ≡ false → IsAnswer old claim answer new → IsSound new
answered old new claim Granted sound none is = subst IsSound (sym is.1) (IsSound-held old claim sound (clear-free old.holds old.waits claim is.0))
answered old new claim (Waits gxids) sound none is = subst IsSound (sym is.1.1) (IsSound-waits old claim sound none)

went_on : (old new : Locks) (g : Gxid) (o : Option Claim) → IsSound old → is_ready old o ≡ true → new ≡ resumed old g o → IsSound new
went_on old new g None sound ready is = absurd (cc)
went_on old new g (Some wait) sound ready is =
    subst IsSound (sym is) (IsSound-fewer_waits (λ claim. not (is_of g claim)) (record old { holds = with_claim wait old.holds }) (IsSound-held old wait sound (clear-free old.holds old.waits wait ready)))

pub IsSound-step : (old new : Locks) (call : Call) → IsSound old → IsStep old call new → IsSound new
IsSound-step old new (Request claim answer) sound is = answered old new claim answer sound is.0 is.1
IsSound-step old new (Take claim) sound is = subst IsSound (sym is.1) (IsSound-held old claim sound is.0)
IsSound-step old new (Resume g) sound is = went_on old new g (wait_of old g) sound is.0 is.1
IsSound-step old new (Release claim) sound is = subst IsSound (sym is) (IsSound-fewer_holds (λ other. not (same_claim claim other)) old sound)
IsSound-step old new (ReleaseAll g) sound is =
    subst IsSound (sym is) (IsSound-fewer_waits (λ claim. not (is_of g claim)) (record old { holds = without g old.holds }) (IsSound-fewer_holds (λ claim. not (is_of g claim)) old sound))

no_pairs : (R : Claim → Claim → Type 0) (xs : List Claim) → xs ≡ [] → (i j : ℕ) (d : Claim) → i < j → j < length xs → R (get_or xs i d) (get_or xs j d)
no_pairs R xs none i j d before inside = absurd (omega (arith, inside, ap length none))

pub IsSound-run : (calls : List Call) (locks : Locks) → IsRun calls locks → IsSound locks
IsSound-run [] locks is = record {
  exclusive = no_pairs (λ earlier later. meets later earlier ≡ false) locks.holds is.0;
  held_once = no_pairs (λ earlier later. same_claim later earlier ≡ false) locks.holds is.0;
  wait_once = no_pairs (λ a b. is_of a.gxid b ≡ false) locks.waits is.1;
}
IsSound-run (call ∷ before) locks is = IsSound-step is.0 locks call (IsSound-run before is.0 is.1) is.2
