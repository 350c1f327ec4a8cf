-- The edges of graphs, and what a reduction leaves of them.
use Rattle.std.proofs.Common.{◌≡◌, ◌<◌, ◌+◌, ℕ, List, [], ◌∷◌, ◌++◌, Bool, true, false, cond, filter, map, take, length, get_or, sym, refl, ap, subst, ◌∙◌, append-nil}
use Rattle.std.proofs.lemmas.List.{take_more}
use Rattle.std.proofs.lemmas.List.Concat.{flat_map-append}
use Rattle.std.proofs.lemmas.List.Elements.{filter-append}
use Rattle.std.specs.List.{count_by, Contains}
use Rattle.gx_ids.specs.declared.ids.Node.{Node}
use Rattle.gx_ids.specs.declared.ids.Gxid.{Gxid}
use Rattle.gx_waits.specs.declared.edge.Edge.{Edge}
use Rattle.gx_waits.specs.declared.graph.LocalGraph.{LocalGraph}
use Rattle.gx_waits.specs.declared.placed_edge.PlacedEdge.{PlacedEdge}
use Rattle.gx_waits.specs.LocalGraph.{edges_of}
use Rattle.gx_waits.specs.Closed.{IsNamed, IsStuck}
use Rattle.gx_waits.specs.Finish.{CanFinish}
use Rattle.gx_waits.proofs.Members.{has_from_contains, contains_from_has, each_from_all}
use Rattle.gx_waits.proofs.StuckWaits.{stuck_never_finishes}
use Rattle.gx_detect.specs.declared.place.Place.{Place}
use Rattle.gx_detect.specs.declared.place.Aim.TheVariants.{Stuck}
use Rattle.gx_detect.specs.Place.{waits_in}
use Rattle.gx_detect.specs.Settled.{IsLargest}
use Rattle.gx_detect.specs.Reduce.{is_left, kept_edges}
use Rattle.gx_detect.proofs.Finishing.{others_finish}
use Rattle.gx_detect.proofs.Parts.{left_is_stuck, stuck_is_left}
use Rattle.gx_detect.proofs.Stuck.{has_filter, filter_has}

abbrev pub placed : LocalGraph → List PlacedEdge
placed graph = map (λ edge. record { node = graph.node; edge = edge }) graph.edges

pub edges_of-take_more : (graphs : List LocalGraph) (i : ℕ) (x : LocalGraph) → i < length graphs → x ≡ get_or graphs i x → edges_of (take (i + 1) graphs) ≡ edges_of (take i graphs) ++ placed x
edges_of-take_more graphs i x below at =
    ap edges_of (take_more graphs i x below)
    ∙ flat_map-append placed (take i graphs) (get_or graphs i x ∷ [])
    ∙ ap (λ l. edges_of (take i graphs) ++ l) (append-nil (placed (get_or graphs i x)))
    ∙ ap (λ g. edges_of (take i graphs) ++ placed g) (sym at)

map-filter : (test : PlacedEdge → Bool) (node : Node) (edges : List Edge) → map (λ e. record { node = node; edge = e }) (filter (λ e. test (record { node = node; edge = e })) edges) ≡ filter test (map (λ e. record { node = node; edge = e }) edges)
map-filter test node [] = refl
map-filter test node (x ∷ xs) = go (test (record { node = node; edge = x })) (map-filter test node xs)
  where
    go : (b : Bool) → map (λ e. record { node = node; edge = e }) (filter (λ e. test (record { node = node; edge = e })) xs) ≡ filter test (map (λ e. record { node = node; edge = e }) xs)
        → map (λ e. record { node = node; edge = e }) (cond b (x ∷ filter (λ e. test (record { node = node; edge = e })) xs) (filter (λ e. test (record { node = node; edge = e })) xs))
        ≡ cond b (record { node = node; edge = x } ∷ filter test (map (λ e. record { node = node; edge = e }) xs)) (filter test (map (λ e. record { node = node; edge = e }) xs))
    go true h = ap (λ l. record { node = node; edge = x } ∷ l) h
    go false h = h

pub edges_of-kept_edges : (test : PlacedEdge → Bool) (graphs : List LocalGraph) → edges_of (map (kept_edges test) graphs) ≡ filter test (edges_of graphs)
edges_of-kept_edges test [] = refl
edges_of-kept_edges test (g ∷ gs) =
    ap (λ l. l ++ edges_of (map (kept_edges test) gs)) (map-filter test g.node g.edges)
    ∙ ap (λ l. filter test (placed g) ++ l) (edges_of-kept_edges test gs)
    ∙ sym (filter-append test (placed g) (edges_of gs))

-- what is left of the edges by their counts is what is stuck
module _ (edges rest part : List PlacedEdge) (count : Place → ℕ) (largest : IsLargest Stuck edges part)
    (counts : (p : Place) → count p ≡ count_by (waits_in p) part) (r : rest ≡ filter (is_left count) edges) where
  pub rest_is_stuck : (e : PlacedEdge) → Contains rest e → IsStuck edges e
  rest_is_stuck e c =
      let h = filter_has (is_left count) edges e (has_from_contains e (filter (is_left count) edges) (subst (λ l. Contains l e) r c)) in
      left_is_stuck edges part largest count counts e (contains_from_has e edges h.0) h.1

  pub stuck_is_rest : (e : PlacedEdge) → IsStuck edges e → Contains rest e
  stuck_is_rest e k =
      let h = each_from_all (λ x. Contains edges x) k.set k.within e (has_from_contains e k.set k.member) in
      subst (λ l. Contains l e) (sym r)
      (contains_from_has e (filter (is_left count) edges) (has_filter (is_left count) edges e (has_from_contains e edges h) (stuck_is_left edges part largest count counts e k)))

  pub rest_never_finishes : (v : Gxid) → IsNamed rest v → CanFinish edges v → ⊥
  rest_never_finishes v (e, c, n) f = stuck_never_finishes edges v (e, rest_is_stuck e c, n) f

  pub unnamed_finish : (v : Gxid) → (IsNamed rest v → ⊥) → CanFinish edges v
  unnamed_finish v none = others_finish edges v (λ n. none (n.0, stuck_is_rest n.0 n.1, n.2))
