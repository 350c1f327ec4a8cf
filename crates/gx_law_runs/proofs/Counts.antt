-- How many transactions the marks have aborted. Each aborts once, so that all victims together are no more than those who began.
use Rattle.std.proofs.Common.{◌≡◌, ◌≤◌, ℕ, zero, suc, ◌+◌, List, ◌∷◌, ◌++◌, ap, Bool, true, false, refl, subst, ◌||◌, arith, eqb}
use Rattle.std.proofs.lemmas.Bool.{eqb-true}
use Rattle.std.proofs.lemmas.Bool.Decides.{nat_tests}
use Rattle.gx_lemmas.proofs.Numbers.{eqb-self, one-le-none}
use Rattle.gx_store.specs.declared.mark.Mark.{Mark}
use Rattle.gx_store.specs.declared.mark.Mark.TheVariants as mark
use Rattle.gx_store.specs.Marks.{is_aborted}
use Rattle.gx_law_order.specs.Pairs.{bit}
use Rattle.gx_law_order.proofs.Past.{aborted-append}
use Rattle.gx_law_order.specs.Standings.{gx}

-- of the first so many
abbrev pub aborts_in : List Mark → ℕ → ℕ
aborts_in ms zero = 0
aborts_in ms (suc n) = bit (is_aborted ms (gx (suc n))) + aborts_in ms n

pub aborts-most : (ms : List Mark) (n : ℕ) → aborts_in ms n ≤ n
aborts-most ms zero = least 0
  where
    least : (a : ℕ) → 0 ≤ a
    least a = omega arith
aborts-most ms (suc n) = next (is_aborted ms (gx (suc n))) (aborts_in ms n) (aborts-most ms n)
  where
    next : (b : Bool) (a : ℕ) → a ≤ n → bit b + a ≤ suc n
    next true a l = omega arith
    next false a l = omega arith

pub abort-first : (g : ℕ) (ms : List Mark) → is_aborted (mark.Abort (gx g) ∷ ms) (gx g) ≡ true
abort-first g ms = ap (λ b. b || is_aborted ms (gx g)) (eqb-self g)

-- MORE MARKS
same-or-more : (a b c : Bool) (x y : ℕ) → c ≡ (a || b) → x ≤ y → bit a + x ≤ bit c + y
same-or-more true b true x y e l = omega arith
same-or-more true b false x y e l = absurd (cc)
same-or-more false b true x y e l = omega arith
same-or-more false b false x y e l = omega arith

pub aborts-front : (ms ns : List Mark) (n : ℕ) → aborts_in ms n ≤ aborts_in (ms ++ ns) n
aborts-front ms ns zero = least 0
  where
    least : (a : ℕ) → a ≤ a
    least a = omega arith
aborts-front ms ns (suc n) = same-or-more (is_aborted ms (gx (suc n))) (is_aborted ns (gx (suc n))) _ (aborts_in ms n) _ (aborted-append ms ns (gx (suc n))) (aborts-front ms ns n)

-- and one transaction more
pub aborts-next : (ms ns : List Mark) (n m : ℕ) → m ≡ n + 1 → aborts_in ms n ≤ aborts_in (ms ++ ns) m
aborts-next ms ns n m e = subst (λ k. aborts_in ms n ≤ aborts_in (ms ++ ns) k) (counted n m e) (wider (is_aborted (ms ++ ns) (gx (suc n))) (aborts_in ms n) _ (aborts-front ms ns n))
  where
    counted : (n m : ℕ) → m ≡ n + 1 → suc n ≡ m
    counted n m e = omega arith

    wider : (b : Bool) (x y : ℕ) → x ≤ y → x ≤ bit b + y
    wider true x y l = omega arith
    wider false x y l = omega arith

-- who hasn't aborted before does so now
pub aborts-new : (ms ns : List Mark) (g n : ℕ) → 1 ≤ g → g ≤ n → is_aborted ms (gx g) ≡ false → is_aborted ns (gx g) ≡ true → aborts_in ms n + 1 ≤ aborts_in (ms ++ ns) n
aborts-new ms ns g zero one most old new = absurd (one-le-none (between g one most))
  where
    between : (g : ℕ) → 1 ≤ g → g ≤ 0 → 1 ≤ 0
    between g l h = omega arith
aborts-new ms ns g (suc n) one most old new = by_test (eqb g (suc n)) refl (λ l. aborts-new ms ns g n one l old new)
  where
    here : (a b c : Bool) (x y : ℕ) → c ≡ (a || b) → a ≡ false → b ≡ true → x ≤ y → bit a + x + 1 ≤ bit c + y
    here true b c x y e f h l = absurd (cc)
    here false false c x y e f h l = absurd (cc)
    here false true true x y e f h l = omega arith
    here false true false x y e f h l = absurd (cc)

    later : (a b c : Bool) (x y : ℕ) → c ≡ (a || b) → x + 1 ≤ y → bit a + x + 1 ≤ bit c + y
    later true b true x y e l = omega arith
    later true b false x y e l = absurd (cc)
    later false b true x y e l = omega arith
    later false b false x y e l = omega arith

    lower : (g n : ℕ) → g ≤ suc n → eqb g (suc n) ≡ false → g ≤ n
    lower g n l e = grind (arith, nat_tests)

    by_test : (b : Bool) → eqb g (suc n) ≡ b → (g ≤ n → aborts_in ms n + 1 ≤ aborts_in (ms ++ ns) n) → bit (is_aborted ms (gx (suc n))) + aborts_in ms n + 1 ≤ bit (is_aborted (ms ++ ns) (gx (suc n))) + aborts_in (ms ++ ns) n
    by_test true q f =
        subst (λ k. bit (is_aborted ms (gx k)) + aborts_in ms n + 1 ≤ bit (is_aborted (ms ++ ns) (gx k)) + aborts_in (ms ++ ns) n) (eqb-true g (suc n) q)
        (here (is_aborted ms (gx g)) (is_aborted ns (gx g)) _ (aborts_in ms n) _ (aborted-append ms ns (gx g)) old new (aborts-front ms ns n))
    by_test false q f = later (is_aborted ms (gx (suc n))) (is_aborted ns (gx (suc n))) _ (aborts_in ms n) _ (aborted-append ms ns (gx (suc n))) (f (lower g n most q))
