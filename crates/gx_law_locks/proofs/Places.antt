-- The coordinator's places for reports, as a function of the segments.
use Rattle.std.proofs.Common.{◌≡◌, ◌≤◌, ◌<◌, ℕ, zero, suc, ◌+◌, ◌∷◌, Option, Some, None, Bool, true, false, refl, sym, ap, ◌∙◌, if◌then◌else◌, ◌==◌, ◌&&◌, arith}
use Rattle.std.proofs.lemmas.Bool.{eqb-true}
use Rattle.std.proofs.lemmas.Bool.Decides.{nat_tests}
use Rattle.std.specs.List.{list_all}
use Rattle.std.specs.Prelude.{is_none, is_some, map, replicate, unwrap_or}
use Rattle.gx_ids.specs.declared.ids.Node.{Node}
use Rattle.gx_detect.specs.Reports.{noted_from}
use Rattle.gx_meaning.specs.Plan.{nodes_from}
use Rattle.gx_detect.specs.Reports.{lacks_from}
use Rattle.gx_waits.specs.declared.graph.LocalGraph.{LocalGraph}
use Rattle.gx_law_order.proofs.Sent.{at}

-- the graph that came from a node is its first, unless it had one
abbrev pub with_first : (Node → Option LocalGraph) → Node → LocalGraph → Node → Option LocalGraph
with_first f from graph j = if from.0 == j.0 then Some (unwrap_or (f j) graph) else f j

other-than : (a b : ℕ) → a < b → (a == b) ≡ false
other-than a b h = grind (arith, nat_tests)

module _ (f : Node → Option LocalGraph) where
  -- these are the same for all segments from a number on
  pub map-same : (h : Node → Option LocalGraph) (k n : ℕ) → ((i : ℕ) → k ≤ i → f (at i) ≡ h (at i)) → map f (nodes_from k n) ≡ map h (nodes_from k n)
  map-same h k zero e = refl
  map-same h k (suc n) e = ap (λ o. o ∷ map f (nodes_from (k + 1) n)) (e k (itself k)) ∙ ap (λ os. h (at k) ∷ os) (map-same h (k + 1) n (λ i l. e i (below k i l)))
    where
      itself : (k : ℕ) → k ≤ k
      itself k = omega arith

      below : (k i : ℕ) → k + 1 ≤ i → k ≤ i
      below k i l = omega arith

  pub map-none : (k n : ℕ) → ((i : ℕ) → k ≤ i → f (at i) ≡ None) → map f (nodes_from k n) ≡ replicate n None
  map-none k zero e = refl
  map-none k (suc n) e = ap (λ o. o ∷ map f (nodes_from (k + 1) n)) (e k (itself k)) ∙ ap (λ os. None ∷ os) (map-none (k + 1) n (λ i l. e i (below k i l)))
    where
      itself : (k : ℕ) → k ≤ k
      itself k = omega arith

      below : (k i : ℕ) → k + 1 ≤ i → k ≤ i
      below k i l = omega arith

  -- a graph that comes is noted at its place
  pub noted-is : (from : Node) (graph : LocalGraph) → graph.node.0 ≡ from.0 → (k n : ℕ) → noted_from k (map f (nodes_from k n)) graph ≡ map (with_first f from graph) (nodes_from k n)
  noted-is from graph own k zero = refl
  noted-is from graph own k (suc n) =
      ap (λ q. (if q == k then Some (unwrap_or (f (at k)) graph) else f (at k)) ∷ noted_from (k + 1) (map f (nodes_from (k + 1) n)) graph) own
      ∙ ap (λ os. (if from.0 == k then Some (unwrap_or (f (at k)) graph) else f (at k)) ∷ os) (noted-is from graph own (k + 1) n)

  -- behind the node's place it changes nothing, nor where the node lacks no report
  behind : (from : Node) (graph : LocalGraph) (k n : ℕ) → from.0 < k → map (with_first f from graph) (nodes_from k n) ≡ map f (nodes_from k n)
  behind from graph k zero h = refl
  behind from graph k (suc n) h =
      ap (λ (b : Bool). (if b then Some (unwrap_or (f (at k)) graph) else f (at k)) ∷ map (with_first f from graph) (nodes_from (k + 1) n)) (other-than from.0 k h)
      ∙ ap (λ os. f (at k) ∷ os) (behind from graph (k + 1) n (later from.0 k h))
    where
      later : (a k : ℕ) → a < k → a < k + 1
      later a k h = omega arith

  pub lacks-none : (from : Node) (graph : LocalGraph) (k n : ℕ) → lacks_from k (map f (nodes_from k n)) from ≡ false → map (with_first f from graph) (nodes_from k n) ≡ map f (nodes_from k n)
  lacks-none from graph k zero e = refl
  lacks-none from graph k (suc n) e = by_place (from.0 == k) refl e (lacks-none from graph (k + 1) n)
    where
      after : (a k : ℕ) → (a == k) ≡ true → a < k + 1
      after a k e = grind (arith, nat_tests)

      kept : (o : Option LocalGraph) → is_none o ≡ false → Some (unwrap_or o graph) ≡ o
      kept None e = absurd (cc)
      kept (Some x) e = refl

      by_place : (b : Bool) → (from.0 == k) ≡ b → (if b then is_none (f (at k)) else lacks_from (k + 1) (map f (nodes_from (k + 1) n)) from) ≡ false
          → (lacks_from (k + 1) (map f (nodes_from (k + 1) n)) from ≡ false → map (with_first f from graph) (nodes_from (k + 1) n) ≡ map f (nodes_from (k + 1) n))
          → (if b then Some (unwrap_or (f (at k)) graph) else f (at k)) ∷ map (with_first f from graph) (nodes_from (k + 1) n) ≡ f (at k) ∷ map f (nodes_from (k + 1) n)
      by_place true q e later = ap (λ o. o ∷ map (with_first f from graph) (nodes_from (k + 1) n)) (kept (f (at k)) e) ∙ ap (λ os. f (at k) ∷ os) (behind from graph (k + 1) n (after from.0 k q))
      by_place false q e later = ap (λ os. f (at k) ∷ os) (later e)

  -- only one of the places lacks a report
  pub lacks-within : (i : Node) (k n : ℕ) → lacks_from k (map f (nodes_from k n)) i ≡ true → (k ≤ i.0) × (i.0 < k + n)
  lacks-within i k zero e = absurd (cc)
  lacks-within i k (suc n) e = by_place (i.0 == k) refl e (λ h. lacks-within i (k + 1) n h)
    where
      here : (a k n : ℕ) → (a == k) ≡ true → (k ≤ a) × (a < k + suc n)
      here a k n e = (grind (arith, nat_tests), grind (arith, nat_tests))

      wider : (a k n : ℕ) → k + 1 ≤ a → a < k + 1 + n → (k ≤ a) × (a < k + suc n)
      wider a k n l h = (omega arith, omega arith)

      by_place : (b : Bool) → (i.0 == k) ≡ b → (if b then is_none (f (at k)) else lacks_from (k + 1) (map f (nodes_from (k + 1) n)) i) ≡ true
          → (lacks_from (k + 1) (map f (nodes_from (k + 1) n)) i ≡ true → (k + 1 ≤ i.0) × (i.0 < k + 1 + n)) → (k ≤ i.0) × (i.0 < k + suc n)
      by_place true q h later = here i.0 k n q
      by_place false q h later = let z = later h in wider i.0 k n z.0 z.1

  -- a segment lacks a report where it has no first graph
  pub lacks-is : (i : Node) (k n : ℕ) → k ≤ i.0 → i.0 < k + n → lacks_from k (map f (nodes_from k n)) i ≡ is_none (f i)
  lacks-is i k zero low high = absurd (empty i.0 k low high)
    where
      empty : (a k : ℕ) → k ≤ a → a < k + 0 → ⊥
      empty a k l h = omega arith
  lacks-is i k (suc n) low high = by_place (i.0 == k) refl (λ l h. lacks-is i (k + 1) n l h)
    where
      next : (a k : ℕ) → (a == k) ≡ false → k ≤ a → k + 1 ≤ a
      next a k e l = grind (arith, nat_tests)

      within : (a k n : ℕ) → a < k + suc n → a < k + 1 + n
      within a k n h = omega arith

      here : (i : Node) (k : ℕ) → (i.0 == k) ≡ true → at k ≡ i
      here i k e = ap at (sym (eqb-true i.0 k e))

      by_place : (b : Bool) → (i.0 == k) ≡ b → (k + 1 ≤ i.0 → i.0 < k + 1 + n → lacks_from (k + 1) (map f (nodes_from (k + 1) n)) i ≡ is_none (f i))
          → (if b then is_none (f (at k)) else lacks_from (k + 1) (map f (nodes_from (k + 1) n)) i) ≡ is_none (f i)
      by_place true q later = ap (λ j. is_none (f j)) (here i k q)
      by_place false q later = later (next i.0 k q low) (within i.0 k n high)

  -- all have reported where each has a first graph
  pub all-is : (t : Node → Bool) (k n : ℕ) → ((i : Node) → t i ≡ is_some (f i)) → list_all is_some (map f (nodes_from k n)) ≡ list_all t (nodes_from k n)
  all-is t k zero e = refl
  all-is t k (suc n) e = ap (λ b. b && list_all is_some (map f (nodes_from (k + 1) n))) (sym (e (at k))) ∙ ap (λ b. t (at k) && b) (all-is t (k + 1) n e)
