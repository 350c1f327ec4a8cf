-- Tests in another order; each lemma by its left side.
use Rattle.std.proofs.Common.{◌≡◌, ◌||◌, Bool, true, false, refl, sym, ap}

pub or-turned : (a b : Bool) → (a || b) ≡ (b || a)
or-turned true true = refl
or-turned true false = refl
or-turned false true = refl
or-turned false false = refl

-- the second of three comes first
pub or-across : (a b c : Bool) → (a || (b || c)) ≡ (b || (a || c))
or-across true true c = refl
or-across true false c = refl
or-across false b c = refl

pub or-twice : (a b c : Bool) → a ≡ b → (a || (b || c)) ≡ (a || c)
or-twice true b c e = refl
or-twice false b c e = ap (λ t. t || c) (sym e)
