-- Lists with nothing in them, and what holds of each in a row.
use Rattle.std.proofs.Common.{◌≡◌, ◌≤◌, ◌<◌, ℕ, zero, suc, ◌+◌, List, [], ◌∷◌, ◌++◌, Bool, true, false, refl, subst, arith, cond, eqb, ◌||◌}
use Rattle.std.proofs.lemmas.Bool.{eqb-true, or_from}
use Rattle.std.specs.Prelude.{filter, map}
use Rattle.std.specs.List.{flat_map, list_any, range_with_len}
use Rattle.gx_lemmas.proofs.Numbers.{le-apart}
use Rattle.gx_ids.specs.declared.ids.Node.{Node}
use Rattle.gx_meaning.specs.Plan.{nodes_from}
use Rattle.gx_store.specs.declared.event.Event.{Event}
use Rattle.gx_store.specs.Schedule.{first_of}
use Rattle.gx_law_order.specs.Lists.{Each}

pub nil-left : {A : Type 0} (xs ys : List A) → xs ++ ys ≡ [] → xs ≡ []
nil-left [] ys e = refl
nil-left (x ∷ xs) ys e = absurd (cc)

pub nil-right : {A : Type 0} (xs ys : List A) → xs ++ ys ≡ [] → ys ≡ []
nil-right [] ys e = e
nil-right (x ∷ xs) ys e = absurd (cc)

pub nil-map : {A B : Type 0} (f : A → B) (xs : List A) → map f xs ≡ [] → xs ≡ []
nil-map f [] e = refl
nil-map f (x ∷ xs) e = absurd (cc)

pub nil-first : (xs : List Event) → first_of xs ≡ [] → xs ≡ []
nil-first [] e = refl
nil-first (x ∷ xs) e = absurd (cc)

pub nil-flat : {A B : Type 0} (f : A → List B) (xs : List A) → flat_map f xs ≡ [] → Each (λ x. f x ≡ []) xs
nil-flat f [] e = tt
nil-flat f (x ∷ xs) e = (nil-left (f x) (flat_map f xs) e, nil-flat f xs (nil-right (f x) (flat_map f xs) e))

pub nil-filter : {A : Type 0} (t : A → Bool) (xs : List A) → filter t xs ≡ [] → Each (λ x. t x ≡ false) xs
nil-filter t [] e = tt
nil-filter t (x ∷ xs) e = by_test (t x) refl e (λ f. nil-filter t xs f)
  where
    by_test : (b : Bool) → t x ≡ b → cond b (x ∷ filter t xs) (filter t xs) ≡ [] → (filter t xs ≡ [] → Each (λ x. t x ≡ false) xs) → (t x ≡ false) × Each (λ x. t x ≡ false) xs
    by_test true q e le-apart = absurd (cc)
    by_test false q e le-apart = (q, le-apart e)

-- of each in a row of numbers
pub in-range : (P : ℕ → Type 0) (a n k : ℕ) → Each P (range_with_len a n) → a ≤ k → k < a + n → P k
in-range P a zero k e l h = absurd (none a k l h)
  where
    none : (a k : ℕ) → a ≤ k → k < a + 0 → ⊥
    none a k l h = omega arith
in-range P a (suc n) k e l h = by_first (eqb a k) refl (λ m. in-range P (a + 1) n k e.1 m (on a n k h))
  where
    on : (a n k : ℕ) → k < a + suc n → k < a + 1 + n
    on a n k h = omega arith

    by_first : (b : Bool) → eqb a k ≡ b → (a + 1 ≤ k → P k) → P k
    by_first true q beyond = subst P (eqb-true a k q) e.0
    by_first false q beyond = beyond (le-apart a k l q)

-- of each in a row of segments
pub in-nodes : (P : Node → Type 0) (a n : ℕ) (i : Node) → Each P (nodes_from a n) → a ≤ i.0 → i.0 < a + n → P i
in-nodes P a zero i e l h = absurd (none a i.0 l h)
  where
    none : (a k : ℕ) → a ≤ k → k < a + 0 → ⊥
    none a k l h = omega arith
in-nodes P a (suc n) i e l h = by_first (eqb a i.0) refl (λ m. in-nodes P (a + 1) n i e.1 m (on a n i.0 h))
  where
    on : (a n k : ℕ) → k < a + suc n → k < a + 1 + n
    on a n k h = omega arith

    by_first : (b : Bool) → eqb a i.0 ≡ b → (a + 1 ≤ i.0 → P i) → P i
    by_first true q beyond = subst (λ k. P (record { 0 = k })) (eqb-true a i.0 q) e.0
    by_first false q beyond = beyond (le-apart a i.0 l q)

pub none-any : {A : Type 0} (t : A → Bool) (xs : List A) → Each (λ x. t x ≡ false) xs → list_any t xs ≡ false
none-any t [] e = refl
none-any t (x ∷ xs) e = or_from (t x) (list_any t xs) e.0 (none-any t xs e.1)

pub or-neither : (a b : Bool) → (a || b) ≡ false → (a ≡ false) × (b ≡ false)
or-neither true b e = absurd (cc)
or-neither false b e = (refl, e)

pub any-none : {A : Type 0} (t : A → Bool) (xs : List A) → list_any t xs ≡ false → Each (λ x. t x ≡ false) xs
any-none t [] e = tt
any-none t (x ∷ xs) e = let n = or-neither (t x) (list_any t xs) e in (n.0, any-none t xs n.1)
