-- Whom a round names: victims are one list, and marks are gone through one by one.
use Rattle.std.proofs.Common.{◌≡◌, ◌↔◌, ℕ, ◌+◌, ◌<◌, ◌≤◌, not, if◌then◌else◌, ◌==◌, ◌&&◌, List, [], ◌∷◌, ◌++◌, Option, None, Some, filter, length, take, drop, get_or, refl, sym, subst, ap, ◌∙◌, arith}
use Rattle.std.proofs.lemmas.List.{drop_all, drop_more, take_more}
use Rattle.std.proofs.lemmas.List.Elements.{All-contains}
use Rattle.gx_ids.specs.declared.ids.Gxid.{Gxid}
use Rattle.gx_ids.specs.declared.ids.Node.{Node}
use Rattle.gx_script.specs.declared.Script.{Script}
use Rattle.gx_waits.specs.Closed.{IsStuck}
use Rattle.gx_waits.specs.Edge.{names}
use Rattle.gx_waits.specs.Victims.{AreVictims, IsGreatestInCore, IsNamedInCore}
use Rattle.gx_waits.specs.declared.graph.LocalGraph.{LocalGraph}
use Rattle.gx_waits.specs.declared.placed_edge.PlacedEdge.{PlacedEdge}
use Rattle.gx_store.specs.declared.mark.Mark.{Mark}
use Rattle.gx_store.specs.declared.mark.Mark.TheVariants.{Report}
use Rattle.gx_store.specs.Rounds.{last_report}
use Rattle.gx_judging.specs.Victims.{NameRightly, NamesRightly}

-- REPORTS
report-append : (node : Node) (round : ℕ) (graph : Option LocalGraph) (xs ys : List Mark) → last_report node round graph (xs ++ ys) ≡ last_report node round (last_report node round graph xs) ys
report-append node round graph [] ys = refl
report-append node round graph (Report n r noted ∷ xs) ys = report-append node round (if (n.0 == node.0) && (r == round) then Some noted else graph) xs ys
report-append node round graph (m ∷ xs) ys = report-append node round graph xs ys

pub report-last : (node : Node) (round : ℕ) (xs : List Mark) (m : Mark) → last_report node round None (xs ++ m ∷ []) ≡ last_report node round (last_report node round None xs) (m ∷ [])
report-last node round xs m = report-append node round None xs (m ∷ [])

-- VICTIMS
named-stuck : (edges : List PlacedEdge) (v : Gxid) → IsNamedInCore edges v → (e : PlacedEdge) × IsStuck edges e
named-stuck edges v named = (named.0, All-contains (λ e. IsStuck edges e) named.1.part named.0 named.1.is_part.stuck named.1.member)

same-gxid : (v w : Gxid) → v.0 ≤ w.0 → w.0 ≤ v.0 → v ≡ w
same-gxid v w le ge = let e : v.0 ≡ w.0 = omega (arith, le, ge) in ap (λ (n : ℕ). let g : Gxid = record { 0 = n } in g) e

pub victims-same : (edges : List PlacedEdge) (one other : List Gxid) → AreVictims edges one → AreVictims edges other → one ≡ other
victims-same edges [] [] x y = refl
victims-same edges [] (w ∷ other) x y = let s = named-stuck edges w y.0.named in absurd (x s.0 s.1)
victims-same edges (v ∷ one) [] x y = let s = named-stuck edges v x.0.named in absurd (y s.0 s.1)
victims-same edges (v ∷ one) (w ∷ other) x y = both (same-gxid v w (y.0.greatest v x.0.named) (x.0.greatest w y.0.named))
    (λ e. victims-same (filter (λ e. not (names v e.edge)) edges) one other x.1 (subst (λ (g : Gxid). AreVictims (filter (λ e. not (names g e.edge)) edges) other) (sym e) y.1))
  where
    both : v ≡ w → (v ≡ w → one ≡ other) → v ∷ one ≡ w ∷ other
    both e rest = ap (λ (g : Gxid). g ∷ one) e ∙ ap (λ gs. w ∷ gs) (rest e)

-- MARK BY MARK
module _ (script : Script) (marks : List Mark) (k : ℕ) (m : Mark) (inside : k < length marks) (is : m ≡ get_or marks k m) where
  left : drop k marks ≡ m ∷ drop (k + 1) marks
  left = drop_more marks k m inside ∙ ap (λ x. x ∷ drop (k + 1) marks) (sym is)

  pub mark-next : take k marks ++ m ∷ [] ≡ take (k + 1) marks
  mark-next = ap (λ x. take k marks ++ x ∷ []) is ∙ sym (take_more marks k m inside)

  named-to : NameRightly script (take k marks) (drop k marks) → NamesRightly script (take k marks) m × NameRightly script (take (k + 1) marks) (drop (k + 1) marks)
  named-to h =
      let parts = subst (NameRightly script (take k marks)) left h in
      (parts.0, subst (λ ms. NameRightly script ms (drop (k + 1) marks)) mark-next parts.1)

  named-from : NamesRightly script (take k marks) m → NameRightly script (take (k + 1) marks) (drop (k + 1) marks) → NameRightly script (take k marks) (drop k marks)
  named-from n h = subst (NameRightly script (take k marks)) (sym left) (n, subst (λ ms. NameRightly script ms (drop (k + 1) marks)) (sym mark-next) h)

  pub named-next : {W : Type 0} → NamesRightly script (take k marks) m → NameRightly script (take k marks) (drop k marks) ↔ W → NameRightly script (take (k + 1) marks) (drop (k + 1) marks) ↔ W
  named-next n w = (λ h. w.0 (named-from n h), λ x. (named-to (w.1 x)).1)

  pub named-stop : {W : Type 0} → (NamesRightly script (take k marks) m → ⊥) → NameRightly script (take k marks) (drop k marks) ↔ W → W → ⊥
  named-stop never w x = never (named-to (w.1 x)).0

pub named-end : (script : Script) (marks : List Mark) (k : ℕ) {W : Type 0} → length marks ≤ k → NameRightly script (take k marks) (drop k marks) ↔ W → W
named-end script marks k past w = w.0 (subst (NameRightly script (take k marks)) (sym (drop_all k marks past)) tt)
