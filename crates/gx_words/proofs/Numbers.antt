-- The number that digits write, a digit more.
use Rattle.std.proofs.Common.{◌≡◌, ℕ, ◌+◌, ◌-◌, ◌*◌, ◌≤◌, ◌==◌, nat_le, nat_lt, ◌&&◌, Bool, true, false, cond, List, [], ◌∷◌, length, Option, Some, None, refl, sym, subst, ◌∙◌, arith, true≢false}
use Rattle.std.specs.Option.{is_some}
use Rattle.std.proofs.lemmas.Bool.{eqb-true}
use Rattle.gx_words.specs.Words.{fitting, number_behind, number_of}
use Rattle.gx_words.specs.Digits.{grown}

-- a number that has outgrown 64 bits stays so
pub fitting-large : (n : ℕ) (ds : List ℕ) → 18446744073709551616 ≤ n → fitting (number_behind n ds) ≡ None
fitting-large n [] large = grind arith
fitting-large n (d ∷ ds) large = at (nat_le 48 d && nat_le d 57) (fitting-large (n * 10 + (d - 48)) ds (omega (arith, large)))
  where
    at : (digit : Bool) → fitting (number_behind (n * 10 + (d - 48)) ds) ≡ None
        → fitting (cond digit (number_behind (n * 10 + (d - 48)) ds) None) ≡ None
    at true rec = rec
    at false rec = refl

pub fitting-lost : (n d : ℕ) (ds : List ℕ) → grown n d ≡ None → fitting (number_behind n (d ∷ ds)) ≡ None
fitting-lost n d ds e = at (nat_le 48 d && nat_le d 57) (nat_lt (n * 10 + (d - 48)) 18446744073709551616) refl e
  where
    at : (digit small : Bool) → nat_lt (n * 10 + (d - 48)) 18446744073709551616 ≡ small → cond (digit && small) (Some (n * 10 + (d - 48))) None ≡ None
        → fitting (cond digit (number_behind (n * 10 + (d - 48)) ds) None) ≡ None
    at false small s e = refl
    at true true s e = absurd (cc)
    at true false s e = fitting-large (n * 10 + (d - 48)) ds (grind arith)

nothing : (b : Bool) → (let o : Option ℕ = cond b None None in is_some o) ≡ false
nothing true = refl
nothing false = refl

-- no number begins with a hyphen
pub number-first : (d : ℕ) (ds : List ℕ) → is_some (number_of (d ∷ ds)) ≡ true → (d == 45) ≡ false
number-first d ds e = at (d == 45) refl
  where
    hyphen : (k : ℕ) → k ≡ 45 → is_some (number_of (k ∷ ds)) ≡ true → ⊥
    hyphen k is some =
        true≢false
        (sym (subst (λ (x : ℕ). is_some (number_of (x ∷ ds)) ≡ true) is some)
        ∙ nothing (nat_le 1 (length (45 ∷ ds)) && nat_le (length (45 ∷ ds)) 20))

    at : (b : Bool) → (d == 45) ≡ b → b ≡ false
    at false is = refl
    at true is = absurd (hyphen d (eqb-true d 45 is) e)
