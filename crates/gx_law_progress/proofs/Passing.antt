-- How many of some transactions in a row pass a test.
use Rattle.std.proofs.Common.{◌≡◌, ◌≤◌, ◌<◌, ℕ, zero, suc, ◌+◌, ◌==◌, Bool, true, false, cond, List, [], ◌∷◌, filter, length, refl, sym, subst, arith}
use Rattle.std.proofs.lemmas.Bool.{eqb-true}
use Rattle.std.proofs.lemmas.Bool.Decides.{nat_tests}
use Rattle.std.specs.List.{range_with_len}
use Rattle.std.specs.Prelude.{map}
use Rattle.gx_ids.specs.declared.ids.Gxid.{Gxid}
use Rattle.gx_lemmas.proofs.Tests.{false-true, true-false}

abbrev pub gx : ℕ → Gxid
gx n = record { 0 = n }

abbrev pub gxids : ℕ → ℕ → List Gxid
gxids a n = map (λ k. record { 0 = k }) (range_with_len a n)

-- PLAIN NUMBERS
least : (a : ℕ) → 0 ≤ a
least a = omega arith

up : (a b : ℕ) → a ≤ b → suc a ≤ suc b
up a b l = omega arith

wide : (a b : ℕ) → a ≤ b → a ≤ suc b
wide a b l = omega arith

lower : (a b : ℕ) → suc a ≤ suc b → a ≤ b
lower a b l = omega arith

never : {A : Type 0} (a : ℕ) → suc a ≤ 0 → A
never a l = absurd (no a l)
  where
    no : (a : ℕ) → suc a ≤ 0 → ⊥
    no a l = omega arith

-- ONE MORE IN THE LIST
same-head : (b c : Bool) (x : Gxid) (xs ys : List Gxid) → (b ≡ true → c ≡ true) → length xs ≤ length ys → length (cond b (x ∷ xs) xs) ≤ length (cond c (x ∷ ys) ys)
same-head true true x xs ys f l = up (length xs) (length ys) l
same-head true false x xs ys f l = absurd (false-true (f refl))
same-head false true x xs ys f l = wide (length xs) (length ys) l
same-head false false x xs ys f l = l

one-ahead : (b c : Bool) (x : Gxid) (xs ys : List Gxid) → (b ≡ true → c ≡ true) → length xs + 1 ≤ length ys → length (cond b (x ∷ xs) xs) + 1 ≤ length (cond c (x ∷ ys) ys)
one-ahead true true x xs ys f l = ahead (length xs) (length ys) l
  where
    ahead : (a b : ℕ) → a + 1 ≤ b → suc a + 1 ≤ suc b
    ahead a b l = omega arith
one-ahead true false x xs ys f l = absurd (false-true (f refl))
one-ahead false true x xs ys f l = wide (length xs + 1) (length ys) l
one-ahead false false x xs ys f l = l

new-head : (b c : Bool) (x : Gxid) (xs ys : List Gxid) → b ≡ false → c ≡ true → length xs ≤ length ys → length (cond b (x ∷ xs) xs) + 1 ≤ length (cond c (x ∷ ys) ys)
new-head true c x xs ys e f l = absurd (true-false true refl e)
new-head false true x xs ys e f l = next (length xs) (length ys) l
  where
    next : (a b : ℕ) → a ≤ b → a + 1 ≤ suc b
    next a b l = omega arith
new-head false false x xs ys e f l = absurd (false-true f)

pub passing-few : (p : Gxid → Bool) (a n : ℕ) → length (filter p (gxids a n)) ≤ n
passing-few p a zero = least 0
passing-few p a (suc n) = by_test (p (gx a)) n (passing-few p (a + 1) n)
  where
    by_test : (b : Bool) (n : ℕ) → length (filter p (gxids (a + 1) n)) ≤ n → length (cond b (gx a ∷ filter p (gxids (a + 1) n)) (filter p (gxids (a + 1) n))) ≤ suc n
    by_test true n l = up (length (filter p (gxids (a + 1) n))) n l
    by_test false n l = wide (length (filter p (gxids (a + 1) n))) n l

-- A TEST THAT LETS MORE PASS
module _ (p q : Gxid → Bool) (more : (g : Gxid) → p g ≡ true → q g ≡ true) where
  pub passing-more : (a n m : ℕ) → n ≤ m → length (filter p (gxids a n)) ≤ length (filter q (gxids a m))
  passing-more a zero m l = least _
  passing-more a (suc n) zero l = never n l
  passing-more a (suc n) (suc m) l = same-head (p (gx a)) (q (gx a)) (gx a) _ _ (more (gx a)) (passing-more (a + 1) n m (lower n m l))

  -- and this one besides
  module _ (v : ℕ) (old : p (gx v) ≡ false) (new : q (gx v) ≡ true) where
    later : (a m : ℕ) → v < a + suc m → v < a + 1 + m
    later a m l = omega arith

    behind : (a : ℕ) → a ≤ v → (a == v) ≡ false → a + 1 ≤ v
    behind a l e = grind (arith, nat_tests)

    none : {A : Type 0} (a : ℕ) → a ≤ v → v < a + zero → A
    none a l h = absurd (no a v l h)
      where
        no : (a v : ℕ) → a ≤ v → v < a + 0 → ⊥
        no a v l h = omega arith

    -- it stands at the head, or behind
    here-or-behind : (a : ℕ) (b : Bool) (xs ys : List Gxid) → (b ≡ true → p (gx a) ≡ true) → (a ≡ v → b ≡ false) → length xs ≤ length ys → ((a == v) ≡ false → length xs + 1 ≤ length ys)
        → length (cond b (gx a ∷ xs) xs) + 1 ≤ length (cond (q (gx a)) (gx a ∷ ys) ys)
    here-or-behind a b xs ys passes none l later = by_test (a == v) refl
      where
        by_test : (t : Bool) → (a == v) ≡ t → length (cond b (gx a ∷ xs) xs) + 1 ≤ length (cond (q (gx a)) (gx a ∷ ys) ys)
        by_test true e = new-head b (q (gx a)) (gx a) xs ys (none (eqb-true a v e)) (subst (λ k. q (gx k) ≡ true) (sym (eqb-true a v e)) new) l
        by_test false e = one-ahead b (q (gx a)) (gx a) xs ys (λ f. more (gx a) (passes f)) (later e)

    pub passing-new : (a n m : ℕ) → a ≤ v → v < a + m → n ≤ m → length (filter p (gxids a n)) + 1 ≤ length (filter q (gxids a m))
    passing-new a n zero above below l = none a above below
    passing-new a zero (suc m) above below l =
        here-or-behind a false [] (filter q (gxids (a + 1) m)) (λ f. absurd (false-true f)) (λ e. refl) (least _) (λ e. passing-new (a + 1) zero m (behind a above e) (later a m below) (least m))
    passing-new a (suc n) (suc m) above below l =
        here-or-behind a (p (gx a)) (filter p (gxids (a + 1) n)) (filter q (gxids (a + 1) m)) (λ f. f) (λ e. subst (λ k. p (gx k) ≡ false) (sym e) old) (passing-more (a + 1) n m (lower n m l))
        (λ e. passing-new (a + 1) n m (behind a above e) (later a m below) (lower n m l))
