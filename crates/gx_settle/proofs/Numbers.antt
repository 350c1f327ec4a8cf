-- The number that digits write, a digit more.
use Rattle.std.proofs.Common.{◌≡◌, ℕ, ◌+◌, ◌-◌, ◌*◌, ◌≤◌, nat_le, nat_lt, ◌&&◌, Bool, true, false, cond, List, [], ◌∷◌, Some, None, refl, ap, arith}
use Rattle.gx_settle.specs.Commands.{drawn, grown, number_behind}

-- a number that has outgrown 64 bits stays so
pub drawn-large : (n : ℕ) (ds : List ℕ) → 18446744073709551616 ≤ n → drawn (number_behind n ds) ≡ None
drawn-large n [] large = grind arith
drawn-large n (d ∷ ds) large = at (nat_le 48 d && nat_le d 57) (drawn-large (n * 10 + (d - 48)) ds (omega (arith, large)))
  where
    at : (digit : Bool) → drawn (number_behind (n * 10 + (d - 48)) ds) ≡ None → drawn (cond digit (number_behind (n * 10 + (d - 48)) ds) None) ≡ None
    at true rec = rec
    at false rec = refl

pub drawn-lost : (n d : ℕ) (ds : List ℕ) → grown n d ≡ None → drawn (number_behind n (d ∷ ds)) ≡ None
drawn-lost n d ds e = at (nat_le 48 d && nat_le d 57) (nat_lt (n * 10 + (d - 48)) 18446744073709551616) refl e
  where
    at : (digit small : Bool) → nat_lt (n * 10 + (d - 48)) 18446744073709551616 ≡ small → cond (digit && small) (Some (n * 10 + (d - 48))) None ≡ None
        → drawn (cond digit (number_behind (n * 10 + (d - 48)) ds) None) ≡ None
    at false small s e = refl
    at true true s e = absurd (cc)
    at true false s e = drawn-large (n * 10 + (d - 48)) ds (grind arith)

pub number_behind-grown : (n d m : ℕ) (ds : List ℕ) → grown n d ≡ Some m → number_behind n (d ∷ ds) ≡ number_behind m ds
number_behind-grown n d m ds e = at (nat_le 48 d && nat_le d 57) (nat_lt (n * 10 + (d - 48)) 18446744073709551616) e
  where
    at : (digit small : Bool) → cond (digit && small) (Some (n * 10 + (d - 48))) None ≡ Some m → cond digit (number_behind (n * 10 + (d - 48)) ds) None ≡ number_behind m ds
    at false small e = absurd (cc)
    at true false e = absurd (cc)
    at true true e =
        let same : n * 10 + (d - 48) ≡ m = cc in
        ap (λ (k : ℕ). number_behind k ds) same
