-- Edges that stay among the others at last: the largest part of which each edge has one that backs it.
use Rattle.std.proofs.Common.{◌≡◌, ◌<◌, ◌≤◌, ℕ, zero, suc, List, [], ◌∷◌, Bool, true, false, cond, ◌⊎◌, inl, inr, ⊎_elim, filter, length, refl, sym, ap, subst, ◌∙◌, arith}
use Rattle.std.proofs.lemmas.List.Folds.{Any-from_list_any, list_any-from_Any}
use Rattle.std.specs.List.{list_any}
use Rattle.gx_waits.specs.declared.placed_edge.PlacedEdge.{PlacedEdge}
use Rattle.gx_waits.proofs.Members.{Has, any_from_has, has_from_any}
use Rattle.gx_detect.specs.Verdicts.{stay_for}
use Rattle.gx_detect.proofs.Stuck.{filter_has, has_filter}

-- a test takes something out, or changes nothing
module _ {A : Type 0} (p : A → Bool) where
  shrinks : (xs : List A) → (length (filter p xs) < length xs) ⊎ (filter p xs ≡ xs)
  shrinks [] = inr refl
  shrinks (x ∷ xs) = go (p x) (shrinks xs)
    where
      go : (b : Bool) → (length (filter p xs) < length xs) ⊎ (filter p xs ≡ xs)
          → (length (cond b (x ∷ filter p xs) (filter p xs)) < length (x ∷ xs)) ⊎ (cond b (x ∷ filter p xs) (filter p xs) ≡ x ∷ xs)
      go true (inl less) = inl (omega arith)
      go true (inr same) = inr (ap (λ ys. x ∷ ys) same)
      go false (inl less) = inl (omega arith)
      go false (inr same) = let l : length (filter p xs) ≡ length xs = ap length same in inl (omega arith)

-- an edge stays where some other backs it
module _ (backs : PlacedEdge → PlacedEdge → Bool) where
  abbrev pub stays : List PlacedEdge → PlacedEdge → Bool
  stays edges e = list_any (backs e) edges

  pub backer : (edges : List PlacedEdge) (e : PlacedEdge) → stays edges e ≡ true → (f : PlacedEdge) × Has f edges × (backs e f ≡ true)
  backer edges e s = has_from_any (λ f. backs e f ≡ true) edges (Any-from_list_any (backs e) edges s)

  pub backed : (edges : List PlacedEdge) (e f : PlacedEdge) → Has f edges → backs e f ≡ true → stays edges e ≡ true
  backed edges e f h b = list_any-from_Any (backs e) edges (any_from_has (λ f. backs e f ≡ true) edges f h b)

  pub stay_within : (n : ℕ) (edges : List PlacedEdge) (e : PlacedEdge) → Has e (stay_for n stays edges) → Has e edges
  stay_within zero edges e h = h
  stay_within (suc n) edges e h = (filter_has (stays edges) edges e (stay_within n (filter (stays edges) edges) e h)).0

  -- a part whose edges back one another stays
  pub part_stays : (part : List PlacedEdge) → ((e : PlacedEdge) → Has e part → stays part e ≡ true) → (n : ℕ) (edges : List PlacedEdge)
      → ((e : PlacedEdge) → Has e part → Has e edges) → (e : PlacedEdge) → Has e part → Has e (stay_for n stays edges)
  part_stays part each zero edges inside e h = inside e h
  part_stays part each (suc n) edges inside e h =
      part_stays part each n (filter (stays edges) edges)
      (λ f m. let g = backer part f (each f m) in has_filter (stays edges) edges f (inside f m) (backed edges f g.0 (inside g.0 g.1) g.2)) e h

  unchanged : (n : ℕ) (edges : List PlacedEdge) → filter (stays edges) edges ≡ edges → stay_for n stays edges ≡ edges
  unchanged zero edges same = refl
  unchanged (suc n) edges same = ap (stay_for n stays) same ∙ unchanged n edges same

  -- what stays at last is such a part
  pub stay_backed : (n : ℕ) (edges : List PlacedEdge) → length edges ≤ n → (e : PlacedEdge) → Has e (stay_for n stays edges)
      → stays (stay_for n stays edges) e ≡ true
  stay_backed zero [] short e h = absurd h
  stay_backed zero (x ∷ xs) short e h = absurd (omega arith)
  stay_backed (suc n) edges short e h = ⊎_elim
      (λ (less : length (filter (stays edges) edges) < length edges). stay_backed n (filter (stays edges) edges) (omega arith) e h)
      (λ (same : filter (stays edges) edges ≡ edges). still (unchanged (suc n) edges same) same)
      (shrinks (stays edges) edges)
    where
      still : stay_for n stays (filter (stays edges) edges) ≡ edges → filter (stays edges) edges ≡ edges
          → stays (stay_for n stays (filter (stays edges) edges)) e ≡ true
      still last same =
          subst (λ es. stays es e ≡ true) (sym last)
          (filter_has (stays edges) edges e (subst (λ es. Has e es) (sym same) (subst (λ es. Has e es) last h))).1
