-- The tests of values, rows and images decide whether they are one.
use Rattle.std.proofs.Common.{◌≡◌, Bool, true, false, List, Option, Some, None, refl, ap, nat_eq}
use Rattle.std.proofs.lemmas.Bool.Decides.{Decides-int_eq}
use Rattle.std.proofs.lemmas.Slice.Eq.{slice_eq-Decides}
use Rattle.std.specs.Bool.{Decides}
use Rattle.std.specs.Cmp.Lexicographic.{pointwise}
use Rattle.std.specs.Cmp.{unsigned_Decides}
use Rattle.std.specs.Prelude.{ℤ, ℕ}
use Rattle.gx_tree.specs.declared.value.Value.{Value}
use Rattle.gx_tree.specs.declared.value.Value.TheVariants.{Int, Text}
use Rattle.gx_legal.specs.Images.{is_same_image, is_same_row, is_same_value}

-- two tests that decide the same are one
pub decided-same : (a b : Bool) (P : Type 0) → Decides a P → Decides b P → a ≡ b
decided-same true true P p q = refl
decided-same false false P p q = refl
decided-same true false P p q = absurd (no_true (q.1 (p.0 refl)))
  where
    no_true : false ≡ true → ⊥
    no_true e = cc
decided-same false true P p q = absurd (no_true (p.1 (q.0 refl)))
  where
    no_true : false ≡ true → ⊥
    no_true e = cc

pub values-decided : (a b : Value) → Decides (is_same_value a b) (a ≡ b)
values-decided (Int m) (Int n) = (λ e. ap Int ((Decides-int_eq m n).0 e), λ e. (Decides-int_eq m n).1 (inner m n e))
  where
    inner : (m n : ℤ) → Int m ≡ Int n → m ≡ n
    inner m n e = cc
values-decided (Text s) (Text t) = (λ e. ap Text ((texts s t).0 e), λ e. (texts s t).1 (inner s t e))
  where
    texts : (s t : List ℕ) → Decides (pointwise nat_eq s t) (s ≡ t)
    texts s t = slice_eq-Decides unsigned_Decides s t (pointwise nat_eq s t) refl

    inner : (s t : List ℕ) → Text s ≡ Text t → s ≡ t
    inner s t e = cc
values-decided (Int m) (Text t) = (λ e. absurd (cc), λ e. absurd (cc))
values-decided (Text s) (Int n) = (λ e. absurd (cc), λ e. absurd (cc))

pub rows-decided : (a b : List Value) → Decides (is_same_row a b) (a ≡ b)
rows-decided a b = slice_eq-Decides values-decided a b (is_same_row a b) refl

pub images-decided : (a b : Option (List Value)) → Decides (is_same_image a b) (a ≡ b)
images-decided None None = (λ e. refl, λ e. refl)
images-decided (Some a) (Some b) = (λ e. ap Some ((rows-decided a b).0 e), λ e. (rows-decided a b).1 (inner a b e))
  where
    inner : (a b : List Value) → Some a ≡ Some b → a ≡ b
    inner a b e = cc
images-decided None (Some b) = (λ e. absurd (cc), λ e. absurd (cc))
images-decided (Some a) None = (λ e. absurd (cc), λ e. absurd (cc))
