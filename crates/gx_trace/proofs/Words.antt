-- A word at the front of bytes.
use Rattle.std.proofs.Common.{◌≡◌, ℕ, ◌==◌, nat_eq, Bool, true, false, if◌then◌else◌, ◌&&◌, List, [], ◌∷◌, ◌++◌, length, take, drop, Some, None, refl, ◌∙◌, arith}
use Rattle.std.specs.Cmp.Lexicographic.{pointwise}
use Rattle.std.proofs.lemmas.Option.{none-some}
use Rattle.gx_trace.specs.Readers.{Front, word}

pub if-true : {A : Type 0} (c : Bool) (x y : A) → c ≡ true → (if c then x else y) ≡ x
if-true c x y e = grind arith

pub if-false : {A : Type 0} (c : Bool) (x y : A) → c ≡ false → (if c then x else y) ≡ y
if-false c x y e = grind arith

same : (b : ℕ) → (b == b) ≡ true
same b = grind arith

pub word-again : (w rest : List ℕ) → word w (w ++ rest) ≡ Some (tt, rest)
word-again [] rest = refl
word-again (b ∷ w) rest = if-true (b == b) (word w (w ++ rest)) None (same b) ∙ word-again w rest

step-stands : (c : Bool) (p q : Bool) (x y : Front (Unit {0})) → c ≡ p → (p && q) ≡ true → (q ≡ true → x ≡ y) → (if c then x else None) ≡ y
step-stands c true q x y e f g = if-true c x None e ∙ g f
step-stands c false q x y e f g = absurd (grind (arith, f))

step-fails : (c : Bool) (p q : Bool) (x : Front (Unit {0})) → c ≡ p → (p && q) ≡ false → (q ≡ false → x ≡ None) → (if c then x else None) ≡ None
step-fails c true q x e f g = if-true c x None e ∙ g f
step-fails c false q x e f g = if-false c x None e

pub word-stands : (w bs : List ℕ) → pointwise nat_eq (take (length w) bs) w ≡ true → word w bs ≡ Some (tt, drop (length w) bs)
word-stands [] bs e = refl
word-stands (a ∷ w) [] e = absurd (grind (arith, e))
word-stands (a ∷ w) (b ∷ bs) e = step-stands (b == a) (nat_eq b a) (pointwise nat_eq (take (length w) bs) w) (word w bs) (Some (tt, drop (length w) bs)) refl e (word-stands w bs)

pub word-fails : (w bs : List ℕ) → pointwise nat_eq (take (length w) bs) w ≡ false → word w bs ≡ None
word-fails [] bs e = absurd (grind (arith, e))
word-fails (a ∷ w) [] e = refl
word-fails (a ∷ w) (b ∷ bs) e = step-fails (b == a) (nat_eq b a) (pointwise nat_eq (take (length w) bs) w) (word w bs) refl e (word-fails w bs)

same-of : (a b : ℕ) → (a == b) ≡ true → a ≡ b
same-of a b e = grind arith

by-test : (a b : ℕ) (c : Bool) (w bs rest : List ℕ) → (a == b) ≡ c → (word w bs ≡ Some (tt, rest) → bs ≡ w ++ rest) → (if c then word w bs else None) ≡ Some (tt, rest) → a ∷ bs ≡ b ∷ (w ++ rest)
by-test a b true w bs rest e ih f = let h : a ≡ b = same-of a b e in let t : bs ≡ w ++ rest = ih f in cc
by-test a b false w bs rest e ih f = absurd (none-some _ f)

pub word-sound : (w bs rest : List ℕ) → word w bs ≡ Some (tt, rest) → bs ≡ w ++ rest
word-sound [] bs rest e = grind (arith, e)
word-sound (b ∷ w) [] rest e = absurd (none-some _ e)
word-sound (b ∷ w) (a ∷ bs) rest e = by-test a b (a == b) w bs rest refl (word-sound w bs rest) e
