-- Tests of bytes, words and numbers.
use Rattle.std.proofs.Common.{◌≡◌, ℕ, ◌+◌, ◌-◌, ◌*◌, ◌<◌, ◌≤◌, ◌==◌, nat_le, Bool, true, false, if◌then◌else◌, List, [], ◌∷◌, Option, Some, None, refl, sym, ◌∙◌, ap, subst, arith}
use Rattle.gx_lex.specs.declared.symbol.Symbol.{Symbol}
use Rattle.gx_lex.specs.declared.symbol.Symbol.TheVariants.{Open, Close, Star, Comma, Plus, Minus, Slash, Percent, Colon, Semicolon, Equal}
use Rattle.gx_lex.specs.Symbols.{bytes_of_symbol, symbol_of}
use Rattle.gx_lex.specs.Lexing.{is_blank, is_letter, is_digit, is_greater, is_equal, is_either, fitting, number_behind, IsSign}
use Rattle.gx_lex.specs.Reader.{grown}

pub if_true : {A : Type 0} (c : Bool) (x y : A) → c ≡ true → (if c then x else y) ≡ x
if_true c x y e = grind arith

pub if_false : {A : Type 0} (c : Bool) (x y : A) → c ≡ false → (if c then x else y) ≡ y
if_false c x y e = grind arith

pub pick : {A : Type 0} (P : A → Type 0) (c : Bool) (x y : A) → (c ≡ true → P x) → (c ≡ false → P y) → P (if c then x else y)
pick P true x y f g = f refl
pick P false x y f g = g refl

pick_le : {A : Type 0} (P : A → Type 0) (a b : ℕ) (x y : A) → (a ≤ b → P x) → (b < a → P y) → P (if nat_le a b then x else y)
pick_le P a b x y f g = pick P (nat_le a b) x y (λ e. f (grind arith)) (λ e. g (grind arith))

by_not_le : {A : Type 0} (a b : ℕ) (x y : A) → b < a → (if nat_le a b then x else y) ≡ y
by_not_le a b x y l = grind arith

pub by_le : {A : Type 0} (a b : ℕ) (x y : A) → a ≤ b → (if nat_le a b then x else y) ≡ x
by_le a b x y l = grind arith

pub same_number : (a b : ℕ) → (a == b) ≡ true → a ≡ b
same_number a b e = grind arith

-- classes don't meet
pub letter_not_blank : (b : ℕ) → is_letter b ≡ true → is_blank b ≡ false
letter_not_blank b e = grind arith

pub digit_not_blank : (b : ℕ) → is_digit b ≡ true → (is_blank b ≡ false) × (is_letter b ≡ false)
digit_not_blank b e = (grind arith, grind arith)

pub digit_to : (b : ℕ) → is_digit b ≡ true → b ≤ 57
digit_to b e = grind arith

pub neither : (b : ℕ) → is_equal b ≡ false → is_greater b ≡ false → is_either b ≡ false
neither b e f = grind arith

pub not_equal : (b : ℕ) → is_either b ≡ false → is_equal b ≡ false
not_equal b e = grind arith

pub not_greater : (b : ℕ) → is_either b ≡ false → is_greater b ≡ false
not_greater b e = grind arith

-- numbers
abbrev pub number_on : Option ℕ → List ℕ → Option ℕ
number_on n [] = n
number_on n (d ∷ ds) = number_on (grown n d) ds

grown_is : (n d : ℕ) → grown (fitting n) d ≡ fitting (n * 10 + (d - 48))
grown_is n d = pick_le (λ (x : Option ℕ). grown x d ≡ fitting (n * 10 + (d - 48))) n 18446744073709551615 (Some n) None (λ l. refl) (λ l. sym (by_not_le (n * 10 + (d - 48)) 18446744073709551615 _ _ (omega arith)))

pub number_is : (n : ℕ) (w : List ℕ) → number_on (fitting n) w ≡ fitting (number_behind n w)
number_is n [] = refl
number_is n (d ∷ ds) = ap (λ (x : Option ℕ). number_on x ds) (grown_is n d) ∙ number_is (n * 10 + (d - 48)) ds

pub first_digit : (b : ℕ) → is_digit b ≡ true → fitting (0 * 10 + (b - 48)) ≡ Some (b - 48)
first_digit b e =
    let l = digit_to b e in
    let same : 0 * 10 + (b - 48) ≡ b - 48 = omega arith in
    ap fitting same ∙ by_le (b - 48) 18446744073709551615 _ _ (omega arith)

-- signs
some_same : {A : Type 0} (x y : A) → Some x ≡ Some y → x ≡ y
some_same x y e = cc

abbrev pub IsAlone : ℕ → Symbol → Type 0
IsAlone b s = (bytes_of_symbol s ≡ b ∷ []) × ((rest : List ℕ) → IsSign s rest)

at : (c s : Symbol) (b : ℕ) → Some c ≡ Some s → IsAlone b c → IsAlone b s
at c s b e p = subst (λ (x : Symbol). IsAlone b x) (some_same c s e) p

pub symbol_is : (b : ℕ) (s : Symbol) → symbol_of b ≡ Some s → IsAlone b s
symbol_is b s =
    pick P (b == 40) _ _ (λ h e. at Open s b e (is b 40 h, λ rest. tt))
    (λ h. pick P (b == 41) _ _ (λ h e. at Close s b e (is b 41 h, λ rest. tt))
    (λ h. pick P (b == 42) _ _ (λ h e. at Star s b e (is b 42 h, λ rest. tt))
    (λ h. pick P (b == 44) _ _ (λ h e. at Comma s b e (is b 44 h, λ rest. tt))
    (λ h. pick P (b == 43) _ _ (λ h e. at Plus s b e (is b 43 h, λ rest. tt))
    (λ h. pick P (b == 45) _ _ (λ h e. at Minus s b e (is b 45 h, λ rest. tt))
    (λ h. pick P (b == 47) _ _ (λ h e. at Slash s b e (is b 47 h, λ rest. tt))
    (λ h. pick P (b == 37) _ _ (λ h e. at Percent s b e (is b 37 h, λ rest. tt))
    (λ h. pick P (b == 58) _ _ (λ h e. at Colon s b e (is b 58 h, λ rest. tt))
    (λ h. pick P (b == 59) _ _ (λ h e. at Semicolon s b e (is b 59 h, λ rest. tt))
    (λ h. pick P (b == 61) _ _ (λ h e. at Equal s b e (is b 61 h, λ rest. tt))
    (λ h e. absurd (cc)))))))))))) where
      P : Option Symbol → Type 0
      P o = o ≡ Some s → IsAlone b s

      is : (a c : ℕ) → (a == c) ≡ true → c ∷ [] ≡ a ∷ []
      is a c h = ap (λ (x : ℕ). x ∷ []) (sym (same_number a c h))
