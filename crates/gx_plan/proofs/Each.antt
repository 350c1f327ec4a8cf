-- What a loop over items knows of what each gives, at an item and at a fault.
use Rattle.std.proofs.Common.{ℕ, zero, suc, ◌≡◌, ◌∙◌, ◌+◌, ◌<◌, sym, ap, refl, subst, arith, List, [], ◌∷◌, ◌++◌, length, take, get_or, Result, Ok, Err}
use Rattle.gx_meaning.specs.declared.fault.ArithFault.{ArithFault}
use Rattle.gx_meaning.specs.Expressions.{and_then}
use Rattle.gx_meaning.specs.Constants.{each_from}

and_then-ok : {A B : Type 0} (r : Result A ArithFault) (next : A → Result B ArithFault) (b : B) → and_then r next ≡ Ok b → (a : A) × (r ≡ Ok a) × (next a ≡ Ok b)
and_then-ok (Ok a) next b h = (a, refl, h)
and_then-ok (Err e) next b h = cc

-- what the first item and the others gave
each_from-first : {A B : Type 0} (f : ℕ → A → Result B ArithFault) (k : ℕ) (x : A) (xs : List A) (ys : List B) → each_from f k (x ∷ xs) ≡ Ok ys → (y : B) × (f k x ≡ Ok y) × ((zs : List B) × (each_from f (k + 1) xs ≡ Ok zs) × (y ∷ zs ≡ ys))
each_from-first f k x xs ys h =
    let first = and_then-ok (f k x) _ ys h in
    let rest = and_then-ok (each_from f (k + 1) xs) _ ys first.2 in
    (first.0, first.1, (rest.0, rest.1, cc (rest.2)))

two : {B : Type 0} (r : Result B ArithFault) (s : Result (List B) ArithFault) (y : B) (ys : List B) → r ≡ Ok y → s ≡ Ok ys → and_then r (λ a. and_then s (λ l. Ok (a ∷ l))) ≡ Ok (y ∷ ys)
two (Ok a) (Ok l) y ys p q = cc
two (Err e) s y ys p q = cc
two (Ok a) (Err e) y ys p q = cc

pub each_from-more : {A B : Type 0} (f : ℕ → A → Result B ArithFault) (k : ℕ) (xs : List A) (i j : ℕ) (d : A) (ys : List B) (y : B) → each_from f k (take i xs) ≡ Ok ys → i < length xs → j ≡ k + i → f j (get_or xs i d) ≡ Ok y → each_from f k (take (suc i) xs) ≡ Ok (ys ++ y ∷ [])
each_from-more f k [] i j d ys y h lt at g = absurd (omega (arith, lt))
each_from-more f k (x ∷ xs) zero j d ys y h lt at g =
    let same : j ≡ k = omega arith in
    let none : [] ≡ ys = cc in
    subst (λ l. each_from f k (x ∷ []) ≡ Ok (l ++ y ∷ [])) none (two (f k x) (Ok []) y [] (subst (λ n. f n x ≡ Ok y) same g) refl)
each_from-more f k (x ∷ xs) (suc i) j d ys y h lt at g =
    let first = each_from-first f k x (take i xs) ys h in
    let more = each_from-more f (k + 1) xs i j d first.2.0 y first.2.1 (omega arith) (omega arith) g in
    subst (λ l. each_from f k (x ∷ take (suc i) xs) ≡ Ok (l ++ y ∷ [])) first.2.2 (two (f k x) (each_from f (k + 1) (take (suc i) xs)) first.0 (first.2.0 ++ y ∷ []) first.1 more)

-- a loop's step: the item at i gave y, and next has it at its end
pub each_from-push : {A B : Type 0} (f : ℕ → A → Result B ArithFault) (k : ℕ) (xs : List A) (i j : ℕ) (d : A) (ys next : List B) (y : B) → each_from f k (take i xs) ≡ Ok ys → i < length xs → j ≡ k + i → d ≡ get_or xs i d → f j d ≡ Ok y → next ≡ ys ++ y ∷ [] → each_from f k (take (i + 1) xs) ≡ Ok next
each_from-push f k xs i j d ys next y h lt at is g e =
    let one : suc i ≡ i + 1 = omega arith in
    subst (λ n. each_from f k (take n xs) ≡ Ok next) one (each_from-more f k xs i j d ys y h lt at (subst (λ x. f j x ≡ Ok y) is g) ∙ ap Ok (sym e))

pub fault_first : {A B : Type 0} (r : Result A ArithFault) (next : A → Result B ArithFault) (e : ArithFault) → r ≡ Err e → and_then r next ≡ Err e
fault_first (Ok a) next e p = cc
fault_first (Err u) next e p = cc

fault_later : {A : Type 0} (r : Result A ArithFault) (s : Result (List A) ArithFault) (y : A) (e : ArithFault) → r ≡ Ok y → s ≡ Err e → and_then r (λ a. and_then s (λ l. Ok (a ∷ l))) ≡ Err e
fault_later (Ok a) (Err u) y e p q = cc
fault_later (Ok a) (Ok l) y e p q = cc
fault_later (Err u) s y e p q = cc

pub each_from-fault : {A B : Type 0} (f : ℕ → A → Result B ArithFault) (k : ℕ) (xs : List A) (i j : ℕ) (d : A) (ys : List B) (e : ArithFault) → each_from f k (take i xs) ≡ Ok ys → i < length xs → j ≡ k + i → f j (get_or xs i d) ≡ Err e → each_from f k xs ≡ Err e
each_from-fault f k [] i j d ys e h lt at g = absurd (omega (arith, lt))
each_from-fault f k (x ∷ xs) zero j d ys e h lt at g =
    let same : j ≡ k = omega arith in
    fault_first (f k x) _ e (subst (λ n. f n x ≡ Err e) same g)
each_from-fault f k (x ∷ xs) (suc i) j d ys e h lt at g =
    let first = each_from-first f k x (take i xs) ys h in
    fault_later (f k x) (each_from f (k + 1) xs) first.0 e first.1 (each_from-fault f (k + 1) xs i j d first.2.0 e first.2.1 (omega arith) (omega arith) g)

pub length-each_from : {A B : Type 0} (f : ℕ → A → Result B ArithFault) (k : ℕ) (xs : List A) (ys : List B) → each_from f k xs ≡ Ok ys → length ys ≡ length xs
length-each_from f k [] ys h = cc
length-each_from f k (x ∷ xs) ys h =
    let first = each_from-first f k x xs ys h in
    let rest = length-each_from f (k + 1) xs first.2.0 first.2.1 in
    let same : suc (length first.2.0) ≡ length ys = ap length first.2.2 in
    omega (arith, same, rest)
