-- Which nodes a list has.
use Rattle.std.proofs.Common.{◌≡◌, List, [], ◌∷◌, ◌++◌, refl, ap, ◌∙◌, Bool, true, false, cond, eqb, ltb, arith, filter}
use Rattle.std.proofs.lemmas.Bool.Decides.{nat_tests}
use Rattle.std.specs.Prelude.{◌&&◌, ◌||◌, not}
use Rattle.gx_ids.specs.declared.ids.Node.{Node}
use Rattle.gx_dtx.specs.Nodes.{has, without, with_node}

has-append : (j : Node) (a b : List Node) → has j (a ++ b) ≡ (has j a || has j b)
has-append j [] b = grind (arith, nat_tests)
has-append j (k ∷ a) b = grind (arith, nat_tests, has-append j a b)

has-below : (j i : Node) (ns : List Node) → has j (filter (λ k. ltb k.0 i.0) ns) ≡ (ltb j.0 i.0 && has j ns)
has-below j i [] = grind (arith, nat_tests)
has-below j i (k ∷ ns) = grind (arith, nat_tests, has-below j i ns)

has-above : (j i : Node) (ns : List Node) → has j (filter (λ k. ltb i.0 k.0) ns) ≡ (ltb i.0 j.0 && has j ns)
has-above j i [] = grind (arith, nat_tests)
has-above j i (k ∷ ns) = grind (arith, nat_tests, has-above j i ns)

-- the same number is the same node
pub has-same : (i j : Node) (ns : List Node) → eqb i.0 j.0 ≡ true → has j ns ≡ has i ns
has-same i j [] same = refl
has-same i j (k ∷ ns) same = grind (arith, nat_tests, has-same i j ns same)

pub has-without : (j i : Node) (ns : List Node) → has j (without i ns) ≡ (not (eqb i.0 j.0) && has j ns)
has-without j i [] = grind (arith, nat_tests)
has-without j i (k ∷ ns) = grind (arith, nat_tests, has-without j i ns)

has-with_at : (j i : Node) (ns : List Node) (b : Bool) → has i ns ≡ b → has j (cond b ns (filter (λ k. ltb k.0 i.0) ns ++ i ∷ [] ++ filter (λ k. ltb i.0 k.0) ns)) ≡ has j (i ∷ ns)
has-with_at j i ns true is = grind (arith, nat_tests, has-same i j ns)
has-with_at j i ns false is =
    has-append j (filter (λ k. ltb k.0 i.0) ns ++ i ∷ []) (filter (λ k. ltb i.0 k.0) ns)
    ∙ ap (λ x. x || has j (filter (λ k. ltb i.0 k.0) ns)) (has-append j (filter (λ k. ltb k.0 i.0) ns) (i ∷ []))
    ∙ grind (arith, nat_tests, has-below j i ns, has-above j i ns)

-- one node more
pub has-with : (j i : Node) (ns : List Node) → has j (with_node i ns) ≡ has j (i ∷ ns)
has-with j i ns = has-with_at j i ns (has i ns) refl
