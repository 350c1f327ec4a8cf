-- The node whose next step comes first, as one more is looked at.
use Rattle.std.proofs.Common.{◌≡◌, ◌≤◌, ◌<◌, ◌+◌, ◌⊎◌, inl, inr, ℕ, zero, suc, List, [], ◌∷◌, Bool, true, false, refl, sym, subst, ap, ◌∙◌, arith, IfSome, Some, None, rules}
use Rattle.std.proofs.lemmas.Bool.Decides.{nat_tests}
use Rattle.std.proofs.Math.Nat.{eq-or-lt_of_le}
use Rattle.std.specs.Prelude.{nat_le, if◌then◌else◌, map, get_or, length, slice_get, slice_index_or}
use Rattle.std.proofs.lemmas.List.{get_or-map}
use Rattle.gx_merge.specs.declared.merging.NodeHistory.{NodeHistory}
use Rattle.std.specs.declared.option.Option.{Option}
use Rattle.gx_store.specs.declared.run.Step.{Step}
use Rattle.gx_merge.specs.Merging.{ComesLater, IsEarliest, IsFront, next_at, sooner}
use Rattle.gx_merge.specs.declared.front.Front.{Front}

-- what holds at all places below a count, and at it, holds below one more
below-more : (P : ℕ → Type 0) (k : ℕ) → ((i : ℕ) → i < k → P i) → P k → (i : ℕ) → i < k + 1 → P i
below-more P k below here i inside = by_case (eq-or-lt_of_le (omega (arith, inside)))
  where
    by_case : (i ≡ k) ⊎ (i < k) → P i
    by_case (inl same) = subst P (sym same) here
    by_case (inr less) = below i less

abbrev front : ℕ → Step → Front
front k s = record { place = k; clock = s.stamp.clock }

module _ (hs : List (List Step)) (fs : List ℕ) (k : ℕ) where
  -- what holds of no next step holds of it
  of-none : (P : Step → Type 0) (o : Option Step) → o ≡ None → IfSome o P
  of-none P o e = subst (λ p. IfSome p P) (sym e) tt

  of-some : (P : Step → Type 0) (o : Option Step) (s : Step) → o ≡ Some s → P s → IfSome o P
  of-some P o s e p = subst (λ q. IfSome q P) (sym e) p

  pub none-more : (e : Option Front) → IsEarliest hs fs k e → next_at hs fs k ≡ None → IsEarliest hs fs (k + 1) e
  none-more None least next = below-more (λ i. next_at hs fs i ≡ None) k least next
  none-more (Some f) least next = (omega (arith, least.0), least.1, below-more (ComesLater hs fs f) k least.2 (of-none _ (next_at hs fs k) next))

  pub one-more : (e : Option Front) → IsEarliest hs fs k e → (s : Step) → next_at hs fs k ≡ Some s → IsEarliest hs fs (k + 1) (sooner e (front k s))
  one-more None least s next =
      (omega arith, record { step = s; next = next; clock = refl }, below-more (ComesLater hs fs (front k s)) k (λ i inside. of-none _ (next_at hs fs i) (least i inside)) (of-some _ (next_at hs fs k) s next (itself s.stamp.clock k)))
    where
      itself : (a k : ℕ) → (a ≤ a) × (k < k → a < a)
      itself a k = (omega arith, λ inside. omega (arith, inside))
  one-more (Some f) least s next = by_test (nat_le f.clock s.stamp.clock) refl
    where
      kept : (a b x y : ℕ) → nat_le b a ≡ true → y < x → (b ≤ a) × (x < y → b < a)
      kept a b x y e less = (grind (arith, nat_tests), λ inside. omega (arith, inside, less))

      lower : (a b d x y : ℕ) → nat_le b a ≡ false → (b ≤ d) × (x < y → b < d) → (a ≤ d) × (x < k → a < d)
      lower a b d x y e later = (grind (arith, nat_tests), λ inside. grind (arith, nat_tests))

      itself : (a k : ℕ) → (a ≤ a) × (k < k → a < a)
      itself a k = (omega arith, λ inside. omega (arith, inside))

      lower-at : nat_le f.clock s.stamp.clock ≡ false → (i : ℕ) (o : Option Step) → IfSome o (λ t. (f.clock ≤ t.stamp.clock) × (i < f.place → f.clock < t.stamp.clock)) → IfSome o (λ t. (s.stamp.clock ≤ t.stamp.clock) × (i < k → s.stamp.clock < t.stamp.clock))
      lower-at test i None later = tt
      lower-at test i (Some t) later = lower s.stamp.clock f.clock t.stamp.clock i f.place test later

      by_test : (b : Bool) → nat_le f.clock s.stamp.clock ≡ b → IsEarliest hs fs (k + 1) (Some (if b then f else front k s))
      by_test true test =
          (omega (arith, least.0), least.1, below-more (ComesLater hs fs f) k least.2 (of-some _ (next_at hs fs k) s next (kept s.stamp.clock f.clock k f.place test least.0)))
      by_test false test = (
        omega arith,
        record { step = s; next = next; clock = refl },
        below-more (ComesLater hs fs (front k s)) k (λ i inside. lower-at test i (next_at hs fs i) (least.2 i inside)) (of-some _ (next_at hs fs k) s next (itself s.stamp.clock k)),
      )

-- the next step at a place
pub next-of : (hs : List NodeHistory) (fs : List ℕ) (h : NodeHistory) (k : ℕ) → k < length hs → slice_get (slice_index_or hs k h).steps (get_or fs k 0) ≡ next_at (map (λ h. h.steps) hs) fs k
next-of hs fs h k inside = ap (λ (ss : List Step). slice_get ss (get_or fs k 0)) (sym (get_or-map (λ h. h.steps) hs k h [] inside))
