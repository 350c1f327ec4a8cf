-- Each edge of graphs is told by one of them.
use Rattle.std.proofs.Common.{◌≡◌, ◌⊎◌, inl, inr, ⊎_elim, List, [], ◌∷◌, ◌++◌, refl, sym, ap, map}
use Rattle.gx_ids.specs.declared.ids.Node.{Node}
use Rattle.gx_waits.proofs.Members.{Has}
use Rattle.gx_waits.specs.LocalGraph.{edges_of}
use Rattle.gx_waits.specs.declared.edge.Edge.{Edge}
use Rattle.gx_waits.specs.declared.graph.LocalGraph.{LocalGraph}
use Rattle.gx_waits.specs.declared.placed_edge.PlacedEdge.{PlacedEdge}

pub record IsToldBy (graphs : List LocalGraph) (e : PlacedEdge) : Type 0 where
  pub graph : LocalGraph
  pub among : Has graph graphs
  pub place : e.node ≡ graph.node
  pub told : Has e.edge graph.edges

pub has-split : {A : Type 0} (x : A) (xs ys : List A) → Has x (xs ++ ys) → Has x xs ⊎ Has x ys
has-split x [] ys h = inr h
has-split x (y ∷ xs) ys (inl e) = inl (inl e)
has-split x (y ∷ xs) ys (inr h) = ⊎_elim (λ (k : Has x xs). inl (inr k)) (λ k. inr k) (has-split x xs ys h)

told-there : (node : Node) (edges : List Edge) (e : PlacedEdge) → Has e (map (λ edge. record { node = node; edge = edge }) edges) → (e.node ≡ node) × Has e.edge edges
told-there node [] e h = absurd h
told-there node (x ∷ edges) e (inl s) = (sym (ap (λ (p : PlacedEdge). p.node) s), inl (ap (λ (p : PlacedEdge). p.edge) s))
told-there node (x ∷ edges) e (inr h) = let t = told-there node edges e h in (t.0, inr t.1)

pub told-by : (graphs : List LocalGraph) (e : PlacedEdge) → Has e (edges_of graphs) → IsToldBy graphs e
told-by [] e h = absurd h
told-by (g ∷ graphs) e h = by_part (has-split e (map (λ edge. record { node = g.node; edge = edge }) g.edges) (edges_of graphs) h) (told-by graphs e)
  where
    by_part : Has e (map (λ edge. record { node = g.node; edge = edge }) g.edges) ⊎ Has e (edges_of graphs) → (Has e (edges_of graphs) → IsToldBy graphs e) → IsToldBy (g ∷ graphs) e
    by_part (inl k) later = let t = told-there g.node g.edges e k in record { graph = g; among = inl refl; place = t.0; told = t.1 }
    by_part (inr k) later = let t = later k in record { graph = t.graph; among = inr t.among; place = t.place; told = t.told }
