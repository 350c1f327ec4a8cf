-- Items at places.
use Rattle.std.proofs.Common.{◌≡◌, ℕ, ◌<◌, zero, suc, List, [], ◌∷◌, length, slice_get, arith, All, get_or, subst, sym}
use Rattle.std.specs.Prelude.{Some}

pub some_same : {X : Type 0} {a b : X} → Some a ≡ Some b → a ≡ b
some_same e = cc

pub all_at : {X : Type 0} (P : X → Type 0) (xs : List X) (i : ℕ) (x : X) → All P xs → slice_get xs i ≡ Some x → P x
all_at P xs i x all e = let at = got xs i x e in subst P (sym at.1) (all i x at.0)
  where
    got : {X : Type 0} (xs : List X) (i : ℕ) (x : X) → slice_get xs i ≡ Some x → (i < length xs) × (x ≡ get_or xs i x)
    got [] i x e = cc
    got (y ∷ ys) zero x e = (omega arith, cc)
    got (y ∷ ys) (suc i) x e = let rest = got ys i x e in (omega (arith, rest.0), rest.1)
