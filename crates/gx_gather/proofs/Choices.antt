-- The lesser and the greater of values, in any order of the values.
use Rattle.std.proofs.Common.{◌≡◌, ◌∙◌, Bool, true, false, cond, List, [], ◌∷◌, ◌++◌, refl, ap, sym}
use Rattle.std.specs.Ordering.{is_gt}
use Rattle.std.specs.Prelude.{Option, None, Some}
use Rattle.gx_tree.specs.Value.{value_order}
use Rattle.gx_tree.specs.declared.value.Value.{Value}
use Rattle.gx_meaning.specs.Aggregates.{chosen, either, greater, lesser}
use Rattle.gx_gather.proofs.Orders.{gt-trans, not_gt-trans, gt-once, tie-once}

abbrev above : Value → Value → Bool
above a b = is_gt (value_order a b)

-- ---- the two choices, from the tests that they make

lesser_comm-cases : (p q : Bool) (a b : Value) → (p ≡ true → q ≡ true → ⊥) → (p ≡ false → q ≡ false → a ≡ b) → cond p b a ≡ cond q a b
lesser_comm-cases true true a b no_both same = absurd (no_both refl refl)
lesser_comm-cases true false a b no_both same = refl
lesser_comm-cases false true a b no_both same = refl
lesser_comm-cases false false a b no_both same = same refl refl

lesser-comm : (a b : Value) → lesser a b ≡ lesser b a
lesser-comm a b = lesser_comm-cases (above a b) (above b a) a b (gt-once a b) (tie-once a b)

greater-comm : (a b : Value) → greater a b ≡ greater b a
greater-comm a b = sym (lesser_comm-cases (above b a) (above a b) a b (gt-once b a) (λ x y. sym (tie-once b a x y)))

lesser_assoc-cases : (a b c : Value) (p q : Bool) → above a b ≡ p → above b c ≡ q → lesser (cond p b a) c ≡ lesser a (cond q c b)
lesser_assoc-cases a b c true true x y = ap (λ t. cond t c b) y ∙ sym (ap (λ t. cond t c a) (gt-trans a b c x y))
lesser_assoc-cases a b c true false x y = ap (λ t. cond t c b) y ∙ sym (ap (λ t. cond t b a) x)
lesser_assoc-cases a b c false true x y = refl
lesser_assoc-cases a b c false false x y = ap (λ t. cond t c a) (not_gt-trans a b c x y) ∙ sym (ap (λ t. cond t b a) x)

lesser-assoc : (a b c : Value) → lesser (lesser a b) c ≡ lesser a (lesser b c)
lesser-assoc a b c = lesser_assoc-cases a b c (above a b) (above b c) refl refl

greater_assoc-cases : (a b c : Value) (p q : Bool) → above a b ≡ p → above b c ≡ q → greater (cond p a b) c ≡ greater a (cond q b c)
greater_assoc-cases a b c true true x y = ap (λ t. cond t a c) (gt-trans a b c x y) ∙ sym (ap (λ t. cond t a b) x)
greater_assoc-cases a b c true false x y = refl
greater_assoc-cases a b c false true x y = ap (λ t. cond t b c) y ∙ sym (ap (λ t. cond t a b) x)
greater_assoc-cases a b c false false x y = ap (λ t. cond t b c) y ∙ sym (ap (λ t. cond t a c) (not_gt-trans a b c x y))

greater-assoc : (a b c : Value) → greater (greater a b) c ≡ greater a (greater b c)
greater-assoc a b c = greater_assoc-cases a b c (above a b) (above b c) refl refl

-- ---- a choice that doesn't depend on the order, over lists

module _ (choose : Value → Value → Value) (comm : (a b : Value) → choose a b ≡ choose b a) (assoc : (a b c : Value) → choose (choose a b) c ≡ choose a (choose b c)) where
  either-none : (a : Option Value) → either choose a None ≡ a
  either-none None = refl
  either-none (Some a) = refl

  either-comm : (a b : Option Value) → either choose a b ≡ either choose b a
  either-comm None b = sym (either-none b)
  either-comm (Some a) None = refl
  either-comm (Some a) (Some b) = ap Some (comm a b)

  either-assoc : (a b c : Option Value) → either choose (either choose a b) c ≡ either choose a (either choose b c)
  either-assoc None b c = refl
  either-assoc (Some a) None c = refl
  either-assoc (Some a) (Some b) None = refl
  either-assoc (Some a) (Some b) (Some c) = ap Some (assoc a b c)

  chosen-append : (xs ys : List Value) → chosen choose (xs ++ ys) ≡ either choose (chosen choose xs) (chosen choose ys)
  chosen-append [] ys = refl
  chosen-append (x ∷ xs) ys = ap (either choose (Some x)) (chosen-append xs ys) ∙ sym (either-assoc (Some x) (chosen choose xs) (chosen choose ys))

  chosen-comm : (xs ys : List Value) → chosen choose (xs ++ ys) ≡ chosen choose (ys ++ xs)
  chosen-comm xs ys = chosen-append xs ys ∙ either-comm (chosen choose xs) (chosen choose ys) ∙ sym (chosen-append ys xs)

pub least-append : (xs ys : List Value) → chosen lesser (xs ++ ys) ≡ either lesser (chosen lesser xs) (chosen lesser ys)
least-append xs ys = chosen-append lesser lesser-comm lesser-assoc xs ys

pub least-comm : (xs ys : List Value) → chosen lesser (xs ++ ys) ≡ chosen lesser (ys ++ xs)
least-comm xs ys = chosen-comm lesser lesser-comm lesser-assoc xs ys

pub greatest-append : (xs ys : List Value) → chosen greater (xs ++ ys) ≡ either greater (chosen greater xs) (chosen greater ys)
greatest-append xs ys = chosen-append greater greater-comm greater-assoc xs ys

pub greatest-comm : (xs ys : List Value) → chosen greater (xs ++ ys) ≡ chosen greater (ys ++ xs)
greatest-comm xs ys = chosen-comm greater greater-comm greater-assoc xs ys
