-- A graph for each node, one after the other.
use Rattle.std.proofs.Common.{◌≡◌, ℕ, zero, suc, ◌+◌, List, [], ◌∷◌, ◌++◌, ap, ◌∙◌, arith, map}
use Rattle.gx_lemmas.proofs.Numbers.{plus-none}
use Rattle.gx_ids.specs.declared.ids.Node.{Node}
use Rattle.gx_meaning.specs.Plan.{nodes_from}

map-last : {A : Type 0} (f : Node → A) (first count : ℕ) → map f (nodes_from first count) ++ f (record { 0 = first + count }) ∷ [] ≡ map f (nodes_from first (suc count))
map-last f first zero = ap (λ k. f (record { 0 = k }) ∷ []) (plus-none first)
map-last f first (suc count) =
    ap (λ k. f (record { 0 = first }) ∷ (map f (nodes_from (first + 1) count) ++ f (record { 0 = k }) ∷ [])) (shifted first count)
    ∙ ap (λ xs. f (record { 0 = first }) ∷ xs) (map-last f (first + 1) count)
  where
    shifted : (a b : ℕ) → a + suc b ≡ a + 1 + b
    shifted a b = omega arith

pub one-more : {A : Type 0} (f : Node → A) (here : Node) (count : ℕ) (old new : List A) (x : A) → old ≡ map f (here ∷ nodes_from 1 count) → x ≡ f (record { 0 = count + 1 }) → new ≡ old ++ x ∷ [] → new ≡ map f (here ∷ nodes_from 1 (count + 1))
one-more f here count old new x were is pushed =
    pushed ∙ ap (λ xs. xs ++ x ∷ []) were ∙ ap (λ y. map f (here ∷ nodes_from 1 count) ++ y ∷ []) is
    ∙ ap (λ k. map f (here ∷ nodes_from 1 count) ++ f (record { 0 = k }) ∷ []) (turned count)
    ∙ ap (λ xs. f here ∷ xs) (map-last f 1 count)
    ∙ ap (λ n. map f (here ∷ nodes_from 1 n)) (next count)
  where
    turned : (n : ℕ) → n + 1 ≡ 1 + n
    turned n = omega arith

    next : (n : ℕ) → suc n ≡ n + 1
    next n = omega arith
