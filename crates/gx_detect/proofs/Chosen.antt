-- Victims, one after another.
use Rattle.std.proofs.Common.{◌≡◌, ◌<◌, ◌≤◌, List, [], ◌∷◌, ◌++◌, Bool, true, false, cond, not, ◌⊎◌, inl, inr, filter, length, sym, refl, ap, subst, ◌∙◌, arith, append_assoc}
use Rattle.std.proofs.lemmas.Bool.Decides.{nat_tests}
use Rattle.std.specs.List.{Contains}
use Rattle.gx_ids.specs.declared.ids.Gxid.{Gxid}
use Rattle.gx_waits.specs.declared.placed_edge.PlacedEdge.{PlacedEdge}
use Rattle.gx_waits.specs.Edge.{names}
use Rattle.gx_waits.specs.Closed.{IsNamed, IsNamedIn, IsStuck}
use Rattle.gx_waits.specs.Victims.{AreVictims, IsGreatestInCore}
use Rattle.gx_waits.proofs.Members.{Has, has_from_contains, each_from_all}
use Rattle.gx_detect.specs.Core.{IsCore, HaveClosedCores}

abbrev pub edges_without_of : Gxid → List PlacedEdge → List PlacedEdge
edges_without_of v edges = filter (λ e. not (names v e.edge)) edges

pub named_test : (v : Gxid) (e : PlacedEdge) → IsNamedIn e v → names v e.edge ≡ true
named_test v e (inl p) = let n : e.edge.waiter.0 ≡ v.0 = ap (λ g. g.0) p in grind (arith, nat_tests)
named_test v e (inr p) = let n : e.edge.holder.0 ≡ v.0 = ap (λ g. g.0) p in grind (arith, nat_tests)

without_le : (v : Gxid) (edges : List PlacedEdge) → length (edges_without_of v edges) ≤ length edges
without_le v [] = omega arith
without_le v (x ∷ xs) = go (names v x.edge) (without_le v xs)
  where
    go : (b : Bool) → length (edges_without_of v xs) ≤ length xs → length (cond (not b) (x ∷ edges_without_of v xs) (edges_without_of v xs)) ≤ length (x ∷ xs)
    go true l = omega arith
    go false l = omega arith

without_fewer : (v : Gxid) (edges : List PlacedEdge) (e : PlacedEdge) → Has e edges → names v e.edge ≡ true → length (edges_without_of v edges) < length edges
without_fewer v [] e h n = absurd h
without_fewer v (x ∷ xs) e h n = go (names v x.edge) refl h (without_fewer v xs e)
  where
    go : (b : Bool) → names v x.edge ≡ b → (x ≡ e) ⊎ Has e xs → (Has e xs → names v e.edge ≡ true → length (edges_without_of v xs) < length xs) → length (cond (not b) (x ∷ edges_without_of v xs) (edges_without_of v xs)) < length (x ∷ xs)
    go true q m f = let l = without_le v xs in omega arith
    go false q (inl s) f = absurd (never (sym q ∙ ap (λ y. names v y.edge) s ∙ n))
      where
        never : false ≡ true → ⊥
        never k = cc
    go false q (inr m) f = let l = f m n in omega arith

-- a victim is named by some edge, so that fewer edges are left
pub greatest_fewer : (edges : List PlacedEdge) (v : Gxid) → IsGreatestInCore edges v → length (edges_without_of v edges) < length edges
greatest_fewer edges v g =
    let e = g.named.0 in
    let k = each_from_all (λ e. IsStuck edges e) g.named.1.part g.named.1.is_part.stuck e (has_from_contains e g.named.1.part g.named.1.member) in
    without_fewer v edges e (has_from_contains e edges (each_from_all (λ e. Contains edges e) k.set k.within e (has_from_contains e k.set k.member))) (named_test v e g.named.2)

module _ (all edges : List PlacedEdge) (victims : List Gxid) (v : Gxid) where
  pub one_more_victim : ((more : List Gxid) → AreVictims edges more → AreVictims all (victims ++ more)) → IsGreatestInCore edges v → (more : List Gxid) → AreVictims (edges_without_of v edges) more → AreVictims all ((victims ++ v ∷ []) ++ more)
  one_more_victim f g more m = subst (AreVictims all) (sym (append_assoc victims (v ∷ []) more)) (f (v ∷ more) (g, m))

  pub one_more_core : ((more : List Gxid) → HaveClosedCores edges more → HaveClosedCores all (victims ++ more)) → ((core : List PlacedEdge) × IsCore edges core × IsNamed core v) → (more : List Gxid) → HaveClosedCores (edges_without_of v edges) more → HaveClosedCores all ((victims ++ v ∷ []) ++ more)
  one_more_core f g more m = subst (HaveClosedCores all) (sym (append_assoc victims (v ∷ []) more)) (f (v ∷ more) (g, m))

pub none_chosen : (edges : List PlacedEdge) (victims : List Gxid) → AreVictims edges victims → (victims ≡ [] → (e : PlacedEdge) → IsStuck edges e → ⊥) × (((e : PlacedEdge) → IsStuck edges e → ⊥) → victims ≡ [])
none_chosen edges [] a = (λ e. a, λ n. refl)
none_chosen edges (v ∷ vs) a = (
  (λ e. absurd (differ e)),
  λ n. let g = a.0.named in absurd (n g.0 (each_from_all (λ e. IsStuck edges e) g.1.part g.1.is_part.stuck g.0 (has_from_contains g.0 g.1.part g.1.member))),
)
  where
    differ : v ∷ vs ≡ [] → ⊥
    differ e = cc
