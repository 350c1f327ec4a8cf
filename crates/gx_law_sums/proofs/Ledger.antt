-- Sums of changes by who made them, and sums over the accounts.
use Rattle.std.proofs.Common.{◌≡◌, ◌≢◌, ◌≤◌, ℕ, zero, suc, ◌*◌, ◌==◌, ℤ, pos, ◌+ℤ◌, Bool, true, false, if◌then◌else◌, List, [], ◌∷◌, refl, sym, ap, ◌∙◌, arith}
use Rattle.std.proofs.lemmas.Int.{ints}
use Rattle.std.proofs.lemmas.Bool.Decides.{nat_tests}
use Rattle.gx_ids.specs.declared.ids.Gxid.{Gxid}
use Rattle.gx_lemmas.proofs.Tests.{true-false}

-- what a transaction changed
pub record Change : Type 0 where
  pub by : Gxid
  pub amount : ℤ

abbrev pub sum_of : (Gxid → Bool) → List Change → ℤ
sum_of who [] = pos 0
sum_of who (c ∷ cs) = if who c.by then c.amount +ℤ sum_of who cs else sum_of who cs

-- the changes of two that nobody is both of
pub sum_of-both : (all one other : Gxid → Bool) → ((g : Gxid) → one g ≡ true → other g ≡ false) → ((g : Gxid) → one g ≡ true → all g ≡ true) → ((g : Gxid) → one g ≡ false → all g ≡ other g)
    → (cs : List Change) → sum_of all cs ≡ sum_of one cs +ℤ sum_of other cs
sum_of-both all one other apart has rest [] = refl
sum_of-both all one other apart has rest (c ∷ cs) = by_test (one c.by) refl (all c.by) refl (other c.by) refl (sum_of-both all one other apart has rest cs)
  where
    left : (a x y z : ℤ) → z ≡ x +ℤ y → a +ℤ z ≡ (a +ℤ x) +ℤ y
    left a x y z e = omega (arith, ints)

    right : (a x y z : ℤ) → z ≡ x +ℤ y → a +ℤ z ≡ x +ℤ (a +ℤ y)
    right a x y z e = omega (arith, ints)

    by_test : (p : Bool) → one c.by ≡ p → (q : Bool) → all c.by ≡ q → (r : Bool) → other c.by ≡ r → sum_of all cs ≡ sum_of one cs +ℤ sum_of other cs
        → (if q then c.amount +ℤ sum_of all cs else sum_of all cs) ≡ (if p then c.amount +ℤ sum_of one cs else sum_of one cs) +ℤ (if r then c.amount +ℤ sum_of other cs else sum_of other cs)
    by_test true e true f true g h = absurd (true-false (other c.by) g (apart c.by e))
    by_test true e true f false g h = left c.amount (sum_of one cs) (sum_of other cs) (sum_of all cs) h
    by_test true e false f r g h = absurd (true-false (all c.by) (has c.by e) f)
    by_test false e true f true g h = right c.amount (sum_of one cs) (sum_of other cs) (sum_of all cs) h
    by_test false e true f false g h = absurd (true-false (all c.by) f (rest c.by e ∙ g))
    by_test false e false f true g h = absurd (true-false (other c.by) g (sym (rest c.by e) ∙ f))
    by_test false e false f false g h = h

-- the same for those who count alike
pub sum_of-same : (one other : Gxid → Bool) → ((g : Gxid) → one g ≡ other g) → (cs : List Change) → sum_of one cs ≡ sum_of other cs
sum_of-same one other same [] = refl
sum_of-same one other same (c ∷ cs) =
    ap (λ (b : Bool). if b then c.amount +ℤ sum_of one cs else sum_of one cs) (same c.by) ∙ ap (λ (z : ℤ). if other c.by then c.amount +ℤ z else z) (sum_of-same one other same cs)

-- OVER THE ACCOUNTS
-- the sum over the ordinals up to this one, from 1
abbrev pub total : (ℕ → ℤ) → ℕ → ℤ
total f zero = pos 0
total f (suc n) = f (suc n) +ℤ total f n

pub total-same : (f h : ℕ → ℤ) (n : ℕ) → ((k : ℕ) → 1 ≤ k → k ≤ n → h k ≡ f k) → total h n ≡ total f n
total-same f h zero same = refl
total-same f h (suc n) same =
    ap (λ z. z +ℤ total h n) (same (suc n) (omega arith) (omega arith)) ∙ ap (λ z. f (suc n) +ℤ z) (total-same f h n (λ k l m. same k l (omega (arith, m))))

-- one of them changes
pub total-one : (f h : ℕ → ℤ) (o : ℕ) (d : ℤ) (n : ℕ) → 1 ≤ o → o ≤ n → h o ≡ f o +ℤ d → ((k : ℕ) → k ≢ o → h k ≡ f k) → total h n ≡ total f n +ℤ d
total-one f h o d zero one within new old = absurd (omega (arith, one, within))
total-one f h o d (suc n) one within new old = by_test (o == suc n) refl (λ l. total-one f h o d n one l new)
  where
    here : (a b c e x y : ℤ) → a ≡ b +ℤ e → x ≡ y → a +ℤ x ≡ (b +ℤ y) +ℤ e
    here a b c e x y p q = omega (arith, ints)

    there : (a b e x y : ℤ) → a ≡ b → x ≡ y +ℤ e → a +ℤ x ≡ (b +ℤ y) +ℤ e
    there a b e x y p q = omega (arith, ints)

    last : (o == suc n) ≡ true → o ≡ suc n
    last e = grind (arith, nat_tests)

    below : (o == suc n) ≡ false → o ≤ n
    below e = grind (arith, nat_tests)

    apart : (k : ℕ) → k ≤ n → o ≡ suc n → k ≢ o
    apart k l e f = omega arith

    other : (o == suc n) ≡ false → suc n ≢ o
    other e f = grind (arith, nat_tests)

    by_test : (b : Bool) → (o == suc n) ≡ b → (o ≤ n → ((k : ℕ) → k ≢ o → h k ≡ f k) → total h n ≡ total f n +ℤ d) → h (suc n) +ℤ total h n ≡ (f (suc n) +ℤ total f n) +ℤ d
    by_test true e more =
        here (h (suc n)) (f (suc n)) d d (total h n) (total f n) (ap h (sym (last e)) ∙ new ∙ ap (λ k. f k +ℤ d) (last e)) (total-same f h n (λ k l m. old k (apart k m (last e))))
    by_test false e more = there (h (suc n)) (f (suc n)) d (total h n) (total f n) (old (suc n) (other e)) (more (below e) old)

-- each has a hundred
pub total-hundred : (f : ℕ → ℤ) (n : ℕ) → ((k : ℕ) → 1 ≤ k → k ≤ n → f k ≡ pos 100) → total f n ≡ pos (100 * n)
total-hundred f zero each = refl
total-hundred f (suc n) each = next (f (suc n)) (total f n) n (each (suc n) (omega arith) (omega arith)) (total-hundred f n (λ k l m. each k l (omega (arith, m))))
  where
    next : (a z : ℤ) (n : ℕ) → a ≡ pos 100 → z ≡ pos (100 * n) → a +ℤ z ≡ pos (100 * suc n)
    next a z n e f = omega (arith, ints)
