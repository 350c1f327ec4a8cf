-- What stands before a commit: the writers, and the decision.
use Rattle.std.proofs.Common.{◌≡◌, ◌≤◌, ◌<◌, ℕ, zero, suc, ◌+◌, List, [], ◌∷◌, ◌++◌, Some, Bool, true, false, refl, sym, subst, ap, ◌∙◌, ◌||◌, cond, arith, eqb}
use Rattle.std.proofs.lemmas.Bool.{eqb-true, or_right}
use Rattle.std.proofs.lemmas.Bool.Decides.{nat_tests}
use Rattle.std.specs.Prelude.{filter, slice_get, take}
use Rattle.gx_lemmas.proofs.Lists.{get-append}
use Rattle.gx_lemmas.proofs.Numbers.{le-apart}
use Rattle.gx_ids.specs.declared.ids.Node.{Node}
use Rattle.gx_dtx.specs.Nodes.{has}
use Rattle.gx_meaning.specs.Plan.{nodes_from}
use Rattle.gx_store.specs.declared.mark.Mark.{Mark}
use Rattle.gx_store.specs.declared.mark.Mark.TheVariants as mark
use Rattle.gx_store.specs.Protocol.{AreSeveral, CommitsAtOnce, CommitsBy, CommitsInTwo, local_count, prepared_count}
use Rattle.gx_law_order.specs.Pairs.{bit}
use Rattle.gx_law_order.specs.Standings.{at, gx}

-- AT MOST ONE, OR MORE
abbrev pub AtMostOne : List Node → Type 0
AtMostOne [] = Unit {0}
AtMostOne (x ∷ []) = Unit {0}
AtMostOne (x ∷ y ∷ ys) = ⊥

pub few : (xs : List Node) (ms : List Mark) (g : ℕ) → AtMostOne xs → CommitsAtOnce ms (gx g) → CommitsBy xs ms (gx g)
few [] ms g a c = c
few (x ∷ []) ms g a c = c
few (x ∷ y ∷ ys) ms g a c = absurd a

pub many : (xs : List Node) (ms : List Mark) (g : ℕ) → (AtMostOne xs → ⊥) → CommitsInTwo ms (gx g) → CommitsBy xs ms (gx g)
many [] ms g a c = absurd (a tt)
many (x ∷ []) ms g a c = absurd (a tt)
many (x ∷ y ∷ ys) ms g a c = c

pub several : (xs : List Node) → (AtMostOne xs → ⊥) → AreSeveral xs
several [] a = a tt
several (x ∷ []) a = a tt
several (x ∷ y ∷ ys) a = tt

module _ (t : Node → Bool) (w : ℕ) (only : (i : ℕ) → t (at i) ≡ true → i ≡ w) where
  none-above : (a k : ℕ) → w < a → filter t (nodes_from a k) ≡ []
  none-above a zero l = refl
  none-above a (suc k) l = by_test (t (at a)) refl (none-above (a + 1) k (more w a l))
    where
      apart : (i : ℕ) → i ≡ w → w < i → ⊥
      apart i e l = omega arith

      more : (w a : ℕ) → w < a → w < a + 1
      more w a l = omega arith

      by_test : (b : Bool) → t (at a) ≡ b → filter t (nodes_from (a + 1) k) ≡ [] → cond b (at a ∷ filter t (nodes_from (a + 1) k)) (filter t (nodes_from (a + 1) k)) ≡ []
      by_test true e f = absurd (apart a (only a e) l)
      by_test false e f = f

  pub filter-few : (a k : ℕ) → AtMostOne (filter t (nodes_from a k))
  filter-few a zero = tt
  filter-few a (suc k) = by_test (t (at a)) refl (filter-few (a + 1) k)
    where
      above : (i : ℕ) → i ≡ w → w < i + 1
      above i e = omega arith

      by_test : (b : Bool) → t (at a) ≡ b → AtMostOne (filter t (nodes_from (a + 1) k)) → AtMostOne (cond b (at a ∷ filter t (nodes_from (a + 1) k)) (filter t (nodes_from (a + 1) k)))
      by_test true e f = subst (λ xs. AtMostOne (at a ∷ xs)) (sym (none-above (a + 1) k (above a (only a e)))) tt
      by_test false e f = f

filter-has : (t : Node → Bool) (i a k : ℕ) → t (at i) ≡ true → a ≤ i → i < a + k → has (at i) (filter t (nodes_from a k)) ≡ true
filter-has t i a zero e l m = absurd (none a i l m)
  where
    none : (a i : ℕ) → a ≤ i → i < a + 0 → ⊥
    none a i l m = omega arith
filter-has t i a (suc k) e l m = by_same (eqb a i) refl (λ x y. filter-has t i (a + 1) k e x y)
  where
    self : (a : ℕ) (b : Bool) → (eqb a a || b) ≡ true
    self a b = grind (arith, nat_tests)

    nearer : (a k i : ℕ) → i < a + suc k → i < (a + 1) + k
    nearer a k i m = omega arith

    here : (b : Bool) → b ≡ true → has (at i) (cond b (at i ∷ filter t (nodes_from (a + 1) k)) (filter t (nodes_from (a + 1) k))) ≡ true
    here true h = self i (has (at i) (filter t (nodes_from (a + 1) k)))
    here false h = absurd (cc)

    later : (b : Bool) → has (at i) (filter t (nodes_from (a + 1) k)) ≡ true → has (at i) (cond b (at a ∷ filter t (nodes_from (a + 1) k)) (filter t (nodes_from (a + 1) k))) ≡ true
    later true h = or_right (eqb a i) (has (at i) (filter t (nodes_from (a + 1) k))) h
    later false h = h

    by_same : (b : Bool) → eqb a i ≡ b → (a + 1 ≤ i → i < (a + 1) + k → has (at i) (filter t (nodes_from (a + 1) k)) ≡ true) → has (at i) (cond (t (at a)) (at a ∷ filter t (nodes_from (a + 1) k)) (filter t (nodes_from (a + 1) k))) ≡ true
    by_same true q f = subst (λ j. has (at i) (cond (t (at j)) (at j ∷ filter t (nodes_from (a + 1) k)) (filter t (nodes_from (a + 1) k))) ≡ true) (sym (eqb-true a i q)) (here (t (at i)) e)
    by_same false q f = later (t (at a)) (f (le-apart a i l q) (nearer a k i m))

one-has : (xs : List Node) (i j : ℕ) → AtMostOne xs → has (at i) xs ≡ true → has (at j) xs ≡ true → i ≡ j
one-has [] i j a e f = absurd (cc)
one-has (x ∷ []) i j a e f = same x.0 i j e f
  where
    same : (x i j : ℕ) → (eqb x i || false) ≡ true → (eqb x j || false) ≡ true → i ≡ j
    same x i j e f = grind (arith, nat_tests)
one-has (x ∷ y ∷ ys) i j a e f = absurd a

pub filter-many : (t : Node → Bool) (n i j : ℕ) → t (at i) ≡ true → t (at j) ≡ true → 1 ≤ i → i ≤ n → 1 ≤ j → j ≤ n → eqb i j ≡ false → AtMostOne (filter t (nodes_from 1 n)) → ⊥
filter-many t n i j e f a b c d q o = two i j q (one-has (filter t (nodes_from 1 n)) i j o (filter-has t i 1 n e a (under i n b)) (filter-has t j 1 n f c (under j n d)))
  where
    under : (i n : ℕ) → i ≤ n → i < 1 + n
    under i n b = omega arith

    two : (i j : ℕ) → eqb i j ≡ false → i ≡ j → ⊥
    two i j q e = grind (arith, nat_tests)

-- THE DECISION
pub record Decision (ms : List Mark) (ws : List Node) (g : ℕ) : Type 0 where
  pub place : ℕ
  pub decided : slice_get ms place ≡ Some (mark.Decided (gx g))
  pub promised : (i : ℕ) → prepared_count (take place ms) (at i) (gx g) ≡ bit (has (at i) ws)
  pub uncommitted : (i : ℕ) → local_count (take place ms) (at i) (gx g) ≡ 0

pub take-kept : {A : Type 0} (xs ys : List A) (k : ℕ) (x : A) → slice_get xs k ≡ Some x → take k (xs ++ ys) ≡ take k xs
take-kept [] ys k x e = absurd (cc)
take-kept (y ∷ xs) ys zero x e = refl
take-kept (y ∷ xs) ys (suc k) x e = ap (λ zs. y ∷ zs) (take-kept xs ys k x e)

pub decision-append : (ms ns : List Mark) (ws : List Node) (g : ℕ) → Decision ms ws g → Decision (ms ++ ns) ws g
decision-append ms ns ws g d =
    record {
      place = d.place;
      decided = get-append ms ns d.place (mark.Decided (gx g)) d.decided;
      promised = λ i. ap (λ xs. prepared_count xs (at i) (gx g)) (take-kept ms ns d.place (mark.Decided (gx g)) d.decided) ∙ d.promised i;
      uncommitted = λ i. ap (λ xs. local_count xs (at i) (gx g)) (take-kept ms ns d.place (mark.Decided (gx g)) d.decided) ∙ d.uncommitted i;
    }
