-- What is stuck in the graphs by which a round is decided stands when it is decided, if whoever is stuck may still be cancelled then.
use Rattle.std.proofs.Common.{◌≡◌, ◌<◌, inl, inr, ℕ, zero, suc, ◌+◌, List, [], ◌∷◌, Some, true, sym, subst, ap, ◌∙◌, append-nil, arith, length}
use Rattle.std.specs.Prelude.{slice_get}
use Rattle.gx_lemmas.proofs.Options.{some-same}
use Rattle.gx_ids.specs.declared.ids.Gxid.{Gxid}
use Rattle.gx_ids.specs.declared.ids.Node.{Node}
use Rattle.gx_waits.proofs.Members.{Has, all_from_each, each_from_all, has_from_contains}
use Rattle.gx_waits.specs.Closed.{IsClosed, IsNamedInStuck, IsStuck, IsWithin}
use Rattle.gx_waits.specs.LocalGraph.{edges_of}
use Rattle.gx_waits.specs.declared.graph.LocalGraph.{LocalGraph}
use Rattle.gx_waits.specs.declared.placed_edge.PlacedEdge.{PlacedEdge}
use Rattle.gx_store.specs.declared.mark.Mark.{Mark}
use Rattle.gx_store.specs.Refusals.{the_coordinator}
use Rattle.gx_store.specs.Rounds.{IsBlocked, IsGraphAt, StandsAt, is_active}
use Rattle.gx_law_locks.specs.Gathered.{AreGathered}
use Rattle.gx_law_locks.specs.Reports.{AreOneANode, IsReported, IsStuckBlocked}

-- PLACES
pub has-place : {A : Type 0} (x : A) (xs : List A) → Has x xs → (i : ℕ) × (slice_get xs i ≡ Some x)
has-place x [] h = absurd h
has-place x (y ∷ ys) (inl e) = (0, ap Some e)
has-place x (y ∷ ys) (inr h) = let p = has-place x ys h in (suc p.0, p.1)

pub place-short : {A : Type 0} (xs : List A) (i : ℕ) (x : A) → slice_get xs i ≡ Some x → i < length xs
place-short [] i x e = absurd (cc)
place-short (y ∷ ys) zero x e = omega arith
place-short (y ∷ ys) (suc i) x e = let s = place-short ys i x e in omega arith

module _ (marks : List Mark) (own : LocalGraph) (reports : List LocalGraph) (are : AreGathered marks own reports) where
  at-own : own.node ≡ the_coordinator
  at-own = are.here.place

  -- the coordinator's own graph is of this very point
  reported : (graph : LocalGraph) → Has graph (own ∷ reports) → IsReported marks graph
  reported graph (inl e) = subst (IsReported marks) e (record { before = marks; later = []; point = sym (append-nil marks); tells = subst (λ n. IsGraphAt marks n own) (sym at-own) are.here })
  reported graph (inr h) = let p = has-place graph reports h in are.reported p.0 graph p.1

  -- no two are of one node
  apart : (i : ℕ) → the_coordinator ≡ record { 0 = i + 1 } → ⊥
  apart i e = let n : 0 ≡ i + 1 = ap (λ (m : Node). m.0) e in omega arith

  same-place : (i j : ℕ) (a b : LocalGraph) → slice_get reports i ≡ Some a → slice_get reports j ≡ Some b → a.node ≡ b.node → a ≡ b
  same-place i j a b p q same = some-same a b (sym p ∙ ap (slice_get reports) places ∙ q)
    where
      places : i ≡ j
      places = let n : i + 1 ≡ j + 1 = ap (λ (m : Node). m.0) (sym (are.nodes i a p) ∙ same ∙ are.nodes j b q) in omega arith

  one : (a b : LocalGraph) → Has a (own ∷ reports) → Has b (own ∷ reports) → a.node ≡ b.node → a ≡ b
  one a b (inl e) (inl f) same = sym e ∙ f
  one a b (inl e) (inr h) same = let p = has-place b reports h in absurd (apart p.0 (sym at-own ∙ ap (λ (g : LocalGraph). g.node) e ∙ same ∙ are.nodes p.0 b p.1))
  one a b (inr h) (inl e) same = let p = has-place a reports h in absurd (apart p.0 (sym at-own ∙ ap (λ (g : LocalGraph). g.node) e ∙ sym same ∙ are.nodes p.0 a p.1))
  one a b (inr h) (inr k) same = let p = has-place a reports h in let q = has-place b reports k in same-place p.0 q.0 a b p.1 q.1 same

  one-a-node : AreOneANode (own ∷ reports)
  one-a-node a b h k = one a b (has_from_contains a (own ∷ reports) h) (has_from_contains b (own ∷ reports) k)

  -- IF ALL WHO ARE STUCK MAY STILL BE CANCELLED
  module _ (law : IsStuckBlocked marks) (active : (g : Gxid) → IsNamedInStuck (edges_of (own ∷ reports)) g → is_active marks g ≡ true) where
    pub closed-blocked : (set : List PlacedEdge) → IsClosed set → IsWithin set (edges_of (own ∷ reports)) → IsBlocked marks set
    closed-blocked set closed within = law (own ∷ reports) (all_from_each (IsReported marks) (own ∷ reports) reported) one-a-node active set closed within

    pub stuck-stands : (e : PlacedEdge) → IsStuck (edges_of (own ∷ reports)) e → StandsAt marks e
    stuck-stands e k = each_from_all (StandsAt marks) k.set (closed-blocked k.set k.closed k.within).standing e (has_from_contains e k.set k.member)
