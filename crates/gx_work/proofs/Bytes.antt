-- Bytes that may stand in a line.
use Rattle.std.proofs.Common.{◌≡◌, ℕ, zero, suc, ◌<◌, ◌==◌, nat_le, Bool, true, false, ◌&&◌, List, [], ◌∷◌, ◌++◌, refl, ◌∙◌, ap, arith}
use Rattle.std.specs.Prelude.{IsAscii}
use Rattle.std.specs.Fmt.{decimal}
use Rattle.std.specs.List.{list_all}
use Rattle.gx_lex.specs.Lexing.{every, is_digit}
use Rattle.gx_sql.specs.Cutting.{without_return}
use Rattle.gx_sql.specs.Lines.{lines_of}
use Rattle.gx_sql.proofs.Cuts.{Unfed, lines_of-fed}
use Rattle.gx_print.proofs.Cuts.{decimal_digits}

-- what is printed on one line
abbrev pub is_plain : ℕ → Bool
is_plain b = nat_le 32 b && nat_le b 126

abbrev pub IsPlain : List ℕ → Type 0
IsPlain bs = every is_plain bs

both_true : (a b : Bool) → (a && b) ≡ true → (a ≡ true) × (b ≡ true)
both_true true b e = (refl, e)
both_true false b e = absurd cc

-- bytes that are given
pub plain : (bs : List ℕ) → list_all is_plain bs ≡ true → IsPlain bs
plain [] e = tt
plain (b ∷ bs) e = let (p, q) = both_true (is_plain b) (list_all is_plain bs) e in (p, plain bs q)

pub plain_also : (us bs : List ℕ) → IsPlain us → IsPlain bs → IsPlain (us ++ bs)
plain_also [] bs p q = q
plain_also (u ∷ us) bs p q = (p.0, plain_also us bs p.1 q)

digit_plain : (b : ℕ) → is_digit b ≡ true → is_plain b ≡ true
digit_plain b e = grind arith

digits_plain : (bs : List ℕ) → every is_digit bs → IsPlain bs
digits_plain [] e = tt
digits_plain (b ∷ bs) e = (digit_plain b e.0, digits_plain bs e.1)

pub decimal_plain : (n : ℕ) → n < 100 → IsPlain (decimal n)
decimal_plain n l = digits_plain (decimal n) (decimal_digits n (omega (arith, l)))

plain_is : (b : ℕ) → is_plain b ≡ true → (b < 128) × ((b == 10) ≡ false) × ((b == 13) ≡ false)
plain_is b e = (grind arith, grind arith, grind arith)

unfed : (bs : List ℕ) → IsPlain bs → Unfed bs
unfed [] p = tt
unfed (b ∷ bs) p = ((plain_is b p.0).1, unfed bs p.1)

unreturned : (bs : List ℕ) → IsPlain bs → without_return bs ≡ bs
unreturned [] p = refl
unreturned (b ∷ []) p = let (l, f, r) = plain_is b p.0 in grind arith
unreturned (b ∷ c ∷ bs) p = ap (λ (t : List ℕ). b ∷ t) (unreturned (c ∷ bs) p.1)

-- such a line and its line feed
pub lines_of-plain : (bs rest : List ℕ) → IsPlain bs → lines_of (bs ++ 10 ∷ rest) ≡ bs ∷ lines_of rest
lines_of-plain bs rest p = lines_of-fed bs rest (unfed bs p) ∙ ap (λ (l : List ℕ). l ∷ lines_of rest) (unreturned bs p)

pub ascii : (bs : List ℕ) → IsPlain bs → IsAscii (bs ++ 10 ∷ [])
ascii [] p zero = omega arith
ascii [] p (suc i) = omega arith
ascii (b ∷ bs) p zero = (plain_is b p.0).0
ascii (b ∷ bs) p (suc i) = ascii bs p.1 i
