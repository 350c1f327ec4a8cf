-- What a segment has of its versions' transactions is what the marks say of them.
use Rattle.std.proofs.Common.{◌≡◌, ◌∙◌, ℕ, ◌≤◌, List, [], ◌∷◌, Option, Some, Bool, true, false, not, refl, ap, sym, subst, if◌then◌else◌, ◌&&◌, ◌||◌, eqb, nat_lt, arith}
use Rattle.std.proofs.lemmas.Bool.Decides.{nat_tests}
use Rattle.std.specs.List.{list_any}
use Rattle.std.specs.Prelude.{slice_get, take}
use Rattle.gx_ids.specs.declared.ids.Cid.{Cid}
use Rattle.gx_ids.specs.declared.ids.Gxid.{Gxid}
use Rattle.gx_ids.specs.declared.ids.Node.{Node}
use Rattle.gx_dsnap.specs.Gxids.{is_below}
use Rattle.gx_dsnap.specs.Snapshot.{sees}
use Rattle.gx_dsnap.specs.declared.snapshot.Snapshot.{Snapshot}
use Rattle.gx_waits.specs.Claim.{same_claim}
use Rattle.gx_lemmas.proofs.Tests.{true-false}
use Rattle.gx_script.specs.declared.Script.{Script}
use Rattle.gx_store.specs.declared.mark.Mark.{Mark}
use Rattle.gx_store.specs.declared.mark.Mark.TheVariants as mark
use Rattle.gx_store.specs.Journals.{is_same_node}
use Rattle.gx_store.specs.Marks.{is_aborted, is_committed, is_ended, is_same_gxid}
use Rattle.gx_store.specs.Points.{marks_in}
use Rattle.gx_store.specs.Protocol.{is_writer}
use Rattle.gx_store.specs.View.{is_shown_to}
use Rattle.gx_rules.specs.AtSegment.{raised}
use Rattle.gx_rules.specs.Machine.{World}
use Rattle.gx_rules.specs.Segments.{Phase, Seg, Version, has_committed, has_ended, is_unaborted, local_of}
use Rattle.gx_rules.specs.Shown.{counts}
use Rattle.gx_rules.specs.Slices.{own_lock}
use Rattle.gx_law_order.proofs.Journals.{Hold}
use Rattle.gx_law_order.proofs.Lists.{each_weaker}
use Rattle.gx_law_order.specs.Lists.{Each}
use Rattle.gx_law_order.proofs.OwnLocks.{LocksItself, has_version}
use Rattle.gx_law_order.proofs.SegItems.{writes_at}
use Rattle.gx_law_order.proofs.World.{Knows}
use Rattle.gx_law_order.specs.Standings.{at}
use Rattle.gx_law_order.proofs.Everywhere.{Holds}
use Rattle.gx_law_locks.proofs.HoldsInRuns.{Locked}
use Rattle.gx_law_reads.specs.Sights.{DoesEndAt}
use Rattle.gx_law_reads.proofs.Ends.{Facts}
use Rattle.gx_law_reads.proofs.Images.{versions-written}
use Rattle.gx_law_reads.proofs.Seeing.{ends-at, one-counts}
use Rattle.gx_law_writes.proofs.Ended.{writer-ended}
use Rattle.gx_law_writes.proofs.Sound.{IsToldOf}

-- what is known of every world
pub record Known (script : Script) (w : World) : Type 0 where
  pub knows : Knows script w
  pub holds : Holds script w
  pub facts : Facts w
  pub hold : Hold w
  pub locked : Locked script w

-- WHERE A COMMAND RUNS
-- The segment, with a horizon that isn't above, and with other locks of the command's transaction.
pub record IsOn (s : Seg) (g horizon : Gxid) (b : Seg) : Type 0 where
  pub node : b.node ≡ s.node
  pub versions : b.versions ≡ s.versions
  pub at : b.horizon ≡ (raised s horizon).horizon
  pub phases : (h : Gxid) → (local_of b h).phase ≡ (local_of s h).phase
  pub holds : (h : Gxid) → is_same_gxid h g ≡ false → list_any (same_claim (own_lock h)) b.locks.holds ≡ list_any (same_claim (own_lock h)) s.locks.holds

-- WHO HAS ENDED THERE
-- by the phase: it isn't aborted, or has ended unaborted
lost-ended : (p : Phase) → is_unaborted p ≡ false → has_ended p ≡ true
lost-ended p e = grind arith

lost-uncommitted : (p : Phase) → is_unaborted p ≡ false → has_committed p ≡ false
lost-uncommitted p e = grind arith

ended-committed : (p : Phase) → has_ended p ≡ true → is_unaborted p ≡ true → has_committed p ≡ true
ended-committed p e u = grind arith

free-by : (a b held : Bool) → held ≡ (a && not b) → b ≡ true → held ≡ false
free-by a b held e f = grind arith

ended-by : (a b held : Bool) → held ≡ (a && not b) → a ≡ true → held ≡ false → b ≡ true
ended-by a b held e f h = grind arith

either-other : (a b : Bool) → (a || b) ≡ true → a ≡ false → b ≡ true
either-other a b e f = grind arith

either-one : (a b : Bool) → (a || b) ≡ true → b ≡ false → a ≡ true
either-one a b e f = grind arith

-- each has its transaction among those who have written there
pub each-version : (vs : List Version) → Each (λ (v : Version). has_version v.gxid.0 vs ≡ true) vs
each-version [] = tt
each-version (v ∷ vs) = (self v.gxid (has_version v.gxid.0 vs), each_weaker (λ (u : Version). has_version u.gxid.0 vs ≡ true) (λ (u : Version). has_version u.gxid.0 (v ∷ vs) ≡ true) (λ u e. second (is_same_gxid v.gxid u.gxid) (has_version u.gxid.0 vs) e) vs (each-version vs))
  where
    self : (g : Gxid) (b : Bool) → (is_same_gxid g g || b) ≡ true
    self g b = grind (arith, nat_tests)

    second : (a b : Bool) → b ≡ true → (a || b) ≡ true
    second a b e = grind arith

each-both : {A : Type 0} (P Q : A → Type 0) (xs : List A) → Each P xs → Each Q xs → Each (λ x. P x × Q x) xs
each-both P Q [] e f = tt
each-both P Q (x ∷ xs) e f = ((e.0, f.0), each-both P Q xs e.1 f.1)

module _ (script : Script) (w : World) (a : Known script w) (i : ℕ) (one : 1 ≤ i) (g : Gxid) (c : Cid) (x : Snapshot) (horizon : Gxid) (below : (h : Gxid) → 1 ≤ h.0 → (is_below (raised (w.segs i) horizon).horizon h || sees x h) ≡ sees x h) (place : ℕ) (d : Cid) (taken : slice_get (marks_in w.steps) place ≡ Some (mark.Snap g d x)) (b : Seg) (on : IsOn (w.segs i) g horizon b) where
  abbrev ms : List Mark
  ms = marks_in w.steps

  abbrev s : Seg
  s = w.segs i

  module _ (v : Version) (wrote : is_writer (marks_in w.steps) v.gxid (at i) ≡ true) (has : has_version v.gxid.0 (w.segs i).versions ≡ true) where
    abbrev phase : Phase
    phase = (local_of s v.gxid).phase

    abbrev held : Bool
    held = list_any (same_claim (own_lock v.gxid)) s.locks.holds

    locks : LocksItself phase (has_version v.gxid.0 s.versions) held
    locks = (a.knows.well.writers i).each v.gxid.0

    ends : DoesEndAt w (at i) v.gxid
    ends = ends-at script w a.knows a.holds a.facts a.hold (at i) v.gxid

    over : held ≡ false → is_ended ms v.gxid ≡ true
    over e = writer-ended script w a.locked i one v.gxid wrote e

    lost-is : is_unaborted phase ≡ false → is_aborted ms v.gxid ≡ true
    lost-is e = by_commit (is_committed ms v.gxid) refl
      where
        by_commit : (q : Bool) → is_committed ms v.gxid ≡ q → is_aborted ms v.gxid ≡ true
        by_commit true q = absurd (true-false (has_committed phase) (ends.committed q ∙ wrote) (lost-uncommitted phase e))
        by_commit false q = either-other (is_committed ms v.gxid) (is_aborted ms v.gxid) (over (free-by (has_version v.gxid.0 s.versions) (has_ended phase) held locks.holds (lost-ended phase e))) q

    ended-is : is_unaborted phase ≡ true → held ≡ false → is_committed ms v.gxid ≡ true
    ended-is e free = by_abort (is_aborted ms v.gxid) refl
      where
        committed : has_committed phase ≡ true
        committed = ended-committed phase (ended-by (has_version v.gxid.0 s.versions) (has_ended phase) held locks.holds has free) e

        by_abort : (q : Bool) → is_aborted ms v.gxid ≡ q → is_committed ms v.gxid ≡ true
        by_abort true q = absurd (true-false (has_committed phase) committed (ends.aborted q))
        by_abort false q = either-one (is_committed ms v.gxid) (is_aborted ms v.gxid) (over free) q

    counts-on : counts b x g c v ≡ counts (raised s horizon) x g c v
    counts-on =
        ap (λ p. (is_same_gxid v.gxid g && nat_lt v.cid.0 c.0) || (has_committed p && (is_below b.horizon v.gxid || sees x v.gxid))) (on.phases v.gxid)
        ∙ ap (λ h. (is_same_gxid v.gxid g && nat_lt v.cid.0 c.0) || (has_committed phase && (is_below h v.gxid || sees x v.gxid))) on.at

    told-one : IsToldOf ms place x g c b v
    told-one =
        record {
          lost = λ e. lost-is (sym (ap is_unaborted (on.phases v.gxid)) ∙ e);
          ended = λ other e free. ended-is (sym (ap is_unaborted (on.phases v.gxid)) ∙ e) (sym (on.holds v.gxid other) ∙ free);
          counted = counts-on ∙ one-counts script w a.knows a.holds a.facts a.hold (at i) one g c x horizon below place d taken v wrote;
        }

  -- of all versions there
  pub told-all : Each (IsToldOf (marks_in w.steps) place x g c b) b.versions
  told-all =
      subst (Each (IsToldOf ms place x g c b)) (sym on.versions)
      (each_weaker (λ (v : Version). (is_writer ms v.gxid (at i) ≡ true) × (has_version v.gxid.0 s.versions ≡ true)) (IsToldOf ms place x g c b) (λ v e. told-one v e.0 e.1) s.versions
      (each-both (λ (v : Version). is_writer ms v.gxid (at i) ≡ true) (λ (v : Version). has_version v.gxid.0 s.versions ≡ true) s.versions
      (subst (Each (λ (v : Version). is_writer ms v.gxid (at i) ≡ true)) (sym (a.hold i one).versions) (versions-written (at i) ms)) (each-version s.versions)))
