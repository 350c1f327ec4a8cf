-- Words by their first two, and a fault of another result.
use Rattle.std.proofs.Common.{◌≡◌, ◌≤◌, ◌∙◌, List, [], ◌∷◌, Result, Ok, Err, ap, arith, drop, get_or, length, sym}

module _ {A : Type 0} where
  -- a list is its first two elements and the others
  pub two-and-others : (xs : List A) (a b d e : A) → 2 ≤ length xs → a ≡ get_or xs 0 d → b ≡ get_or xs 1 e → xs ≡ a ∷ b ∷ drop 2 xs
  two-and-others [] a b d e long p q = absurd (omega (arith, long))
  two-and-others (x ∷ []) a b d e long p q = absurd (omega (arith, long))
  two-and-others (x ∷ y ∷ xs) a b d e long p q = ap (λ (k : A). k ∷ y ∷ xs) (sym p) ∙ ap (λ (k : A). a ∷ k ∷ xs) (sym q)

module _ {T E : Type 0} where
  or-else : E → Result T E → E
  or-else other (Ok t) = other
  or-else other (Err e) = e

module _ {T U E : Type 0} where
  -- one fault is the other where one result is
  pub as-fault : (e f : E) → (let r : Result T E = Err e in r ≡ Err f) → (let r : Result U E = Err e in r ≡ Err f)
  unfolding or-else
  as-fault e f same = ap (λ (g : E). let r : Result U E = Err g in r) (ap (or-else e) same)
