-- Tests and what chooses by them; each lemma by its left side.
use Rattle.std.proofs.Common.{◌≡◌, ◌⊎◌, inl, inr, Bool, true, false, refl, ◌&&◌, ◌||◌, arith}

pub true-false : (b : Bool) → b ≡ true → b ≡ false → ⊥
true-false b e f = cc

pub false-true : false ≡ true → ⊥
false-true e = cc

-- AND
pub and-first : (a b : Bool) → (a && b) ≡ true → a ≡ true
and-first true b e = refl
and-first false b e = e

pub and-second : (a b : Bool) → (a && b) ≡ true → b ≡ true
and-second true b e = e
and-second false b e = absurd (false-true e)

pub and-last : (a b c : Bool) → c ≡ false → (a && (b && c)) ≡ false
and-last a b c e = grind arith

pub and-true : (b : Bool) → (b && true) ≡ b
and-true true = refl
and-true false = refl

pub and-false : (b : Bool) → (b && false) ≡ false
and-false true = refl
and-false false = refl

-- OR
pub or-false : (b : Bool) → (b || false) ≡ b
or-false true = refl
or-false false = refl

pub or-assoc : (a b c : Bool) → (a || (b || c)) ≡ ((a || b) || c)
or-assoc true b c = refl
or-assoc false b c = refl

pub or-other : (a b : Bool) → a ≡ false → (a || b) ≡ true → b ≡ true
or-other true b e f = absurd (true-false true refl e)
or-other false b e f = f

pub or-cases : (a b : Bool) → (a || b) ≡ true → (a ≡ true) ⊎ (b ≡ true)
or-cases true b e = inl refl
or-cases false b e = inr e
