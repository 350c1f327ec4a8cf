-- Edges that are added to a list one after another.
use Rattle.std.proofs.Common.{◌≡◌, ◌≢◌, ℕ, ◌<◌, List, [], ◌∷◌, ◌++◌, ◌⊎◌, inl, inr, ⊎_elim, sym, subst, arith}
use Rattle.std.specs.List.{Contains, AllPairs}
use Rattle.std.proofs.lemmas.List.Elements.{Contains-append_left, Contains-push, Contains-push_cases, Contains-get_or}
use Rattle.std.proofs.lemmas.List.Quantifiers.{all_pairs_push}
use Rattle.gx_waits.specs.declared.edge.Edge.{Edge}
use Rattle.gx_waits.specs.declared.claim.Claim.{Claim}
use Rattle.gx_waits.specs.LocalGraph.{AddsOnce}
use Rattle.gx_waits.specs.Claim.{AreEdges, IsEdge, Meets, edge_of}
use Rattle.gx_waits.proofs.Members.{has_from_contains}

-- the new edges are the old ones and those that P holds of, and no edge comes to stand twice
pub record AddsAll (P : Edge → Type 0) (old new : List Edge) : Type 0 where
  pub old_ones : (edge : Edge) → Contains old edge → Contains new edge
  pub new_ones : (edge : Edge) → P edge → Contains new edge
  pub no_others : (edge : Edge) → Contains new edge → Contains old edge ⊎ P edge
  pub once : AllPairs (λ a b. a ≢ b) old → AllPairs (λ a b. a ≢ b) new

pub adds_none : (P : Edge → Type 0) → ((e : Edge) → P e → ⊥) → (xs : List Edge) → AddsAll P xs xs
adds_none P none xs = record { old_ones = λ e c. c; new_ones = λ e p. absurd (none e p); no_others = λ e c. inl c; once = λ o. o }

pub adds_then : (P Q R : Edge → Type 0) (a b c : List Edge) → ((e : Edge) → R e → P e ⊎ Q e) → ((e : Edge) → P e → R e) → ((e : Edge) → Q e → R e) → AddsAll P a b → AddsAll Q b c → AddsAll R a c
adds_then P Q R a b c split first second f g =
    record {
      old_ones = λ e m. g.old_ones e (f.old_ones e m);
      new_ones = λ e r. ⊎_elim (λ p. g.old_ones e (f.new_ones e p)) (λ q. g.new_ones e q) (split e r);
      no_others = λ e m. ⊎_elim (λ n. ⊎_elim (λ o. inl o) (λ p. inr (first e p)) (f.no_others e n)) (λ q. inr (second e q)) (g.no_others e m);
      once = λ o. g.once (f.once o);
    }

pub adds_one : (edge : Edge) (old new : List Edge) → AddsOnce old new edge → AddsAll (λ e. e ≡ edge) old new
adds_one edge old new (inl (there, same)) = record {
  old_ones = λ e c. subst (λ l. Contains l e) (sym same) c;
  new_ones = λ e p. subst (λ l. Contains l e) (sym same) (subst (λ x. Contains old x) (sym p) there);
  no_others = λ e c. inl (subst (λ l. Contains l e) same c);
  once = λ o. subst (λ l. AllPairs (λ a b. a ≢ b) l) (sym same) o;
}
adds_one edge old new (inr (absent, longer)) = record {
  old_ones = λ e c. subst (λ l. Contains l e) (sym longer) (Contains-append_left old (edge ∷ []) e c);
  new_ones = λ e p. subst (λ l. Contains l e) (sym longer) (subst (λ x. Contains (old ++ edge ∷ []) x) (sym p) (Contains-push old edge));
  no_others = λ e c. ⊎_elim (λ o. inl o) (λ p. inr (sym p)) (Contains-push_cases old edge e (subst (λ l. Contains l e) longer c));
  once = λ o. subst (λ l. AllPairs (λ a b. a ≢ b) l) (sym longer) (all_pairs_push (λ a b. a ≢ b) old edge o (λ k d below same. absent (subst (λ x. Contains old x) same (Contains-get_or old k d below))));
}

-- the edge from a wait to a claim that it meets
abbrev pub Here : Claim → Claim → Edge → Type 0
Here wait claim e = Meets wait claim × (e ≡ edge_of wait claim)

pub all_edges : (waits holds : List Claim) (edges : List Edge) → AddsAll (IsEdge waits holds) [] edges → AreEdges waits holds edges
all_edges waits holds edges adds = record {
  all_of_them = adds.new_ones;
  no_others = λ e c. ⊎_elim (λ o. absurd (has_from_contains e [] o)) (λ p. p) (adds.no_others e c);
  once = adds.once (λ i j d a b. absurd (nothing j b));
}
  where
    nothing : (j : ℕ) → j < 0 → ⊥
    nothing j b = omega arith
