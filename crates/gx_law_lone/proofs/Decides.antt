-- The graphs of a point where nothing but a round was enabled, and somebody waited, give a verdict that names somebody.
use Rattle.std.proofs.Common.{◌≡◌, ◌≤◌, ◌<◌, ◌⊎◌, inl, inr, ℕ, suc, ◌+◌, List, [], ◌∷◌, ◌++◌, Option, Some, None, Bool, true, false, refl, sym, subst, ap, ◌∙◌, if◌then◌else◌, ◌&&◌, ◌==◌, arith, eqb, length, All, Contains}
use Rattle.std.proofs.lemmas.Bool.{eqb-true}
use Rattle.std.proofs.lemmas.Bool.Decides.{nat_tests}
use Rattle.std.specs.List.{filter_map, list_all}
use Rattle.std.specs.Prelude.{is_some, map}
use Rattle.gx_lemmas.proofs.Numbers.{le-apart}
use Rattle.gx_ids.specs.declared.ids.Gxid.{Gxid}
use Rattle.gx_ids.specs.declared.ids.Node.{Node}
use Rattle.gx_detect.proofs.Computed.{is_verdict_of}
use Rattle.gx_detect.specs.Verdicts.{verdict_of}
use Rattle.gx_locks.proofs.Edges.{are_edges}
use Rattle.gx_locks.specs.Graphs.{graph_at}
use Rattle.gx_locks.specs.Locks.{Locks}
use Rattle.gx_script.specs.declared.Script.{Script}
use Rattle.gx_store.specs.Language.{AreLinesNumbered}
use Rattle.gx_store.specs.Points.{marks_in}
use Rattle.gx_store.specs.Refusals.{the_coordinator}
use Rattle.gx_store.specs.Rounds.{IsBlocked, StandsAt, is_active}
use Rattle.gx_store.specs.Schedule.{enabled}
use Rattle.gx_store.specs.Waits.{holds_at, waits_at}
use Rattle.gx_store.specs.Whole.{AreInsertsWhole}
use Rattle.gx_store.specs.declared.event.Event.{Event}
use Rattle.gx_store.specs.declared.mark.Mark.{Mark}
use Rattle.gx_waits.proofs.Members.{Has, contains_from_has, has_from_any, has_from_contains}
use Rattle.gx_waits.specs.Claim.{IsEdge}
use Rattle.gx_waits.specs.LocalGraph.{edges_of}
use Rattle.gx_waits.specs.declared.claim.Claim.{Claim}
use Rattle.gx_waits.specs.declared.edge.Edge.{Edge}
use Rattle.gx_waits.specs.declared.graph.LocalGraph.{LocalGraph}
use Rattle.gx_waits.specs.declared.placed_edge.PlacedEdge.{PlacedEdge}
use Rattle.gx_rules.specs.Machine.{World, world_of}
use Rattle.gx_rules.specs.Rounds.{active_in}
use Rattle.gx_law_order.proofs.Always.{world-holds}
use Rattle.gx_law_order.proofs.World.{world_knows}
use Rattle.gx_law_order.specs.Standings.{at}
use Rattle.gx_law_locks.proofs.Active.{world-active}
use Rattle.gx_law_locks.proofs.Graphs.{IsToldBy, told-by}
use Rattle.gx_law_locks.proofs.HoldsInRuns.{world-locked}
use Rattle.gx_law_locks.proofs.Rounded.{Rounded}
use Rattle.gx_law_locks.proofs.RoundsInRuns.{world-rounded}
use Rattle.gx_law_locks.specs.Marked.{AreLocksMarked, IsMarked}
use Rattle.gx_law_runs.specs.Awaiting.{locks_at}
use Rattle.gx_law_runs.specs.Openings.{is_round_or_opening}
use Rattle.gx_law_lone.specs.Alone.{AreAllWaits}
use Rattle.gx_law_lone.specs.Victims.{NamesSomebody}
use Rattle.gx_law_lone.proofs.AllWait.{all-blocked, names-somebody, waiter-waits}
use Rattle.gx_law_lone.proofs.InRound.{AreFrom, Decided, graph_then}

-- GRAPHS
has-left : {A : Type 0} (x : A) (xs ys : List A) → Has x xs → Has x (xs ++ ys)
has-left x [] ys h = absurd h
has-left x (y ∷ xs) ys (inl e) = inl e
has-left x (y ∷ xs) ys (inr h) = inr (has-left x xs ys h)

has-right : {A : Type 0} (x : A) (xs ys : List A) → Has x ys → Has x (xs ++ ys)
has-right x [] ys h = h
has-right x (y ∷ xs) ys h = inr (has-right x xs ys h)

placed : (node : Node) (edges : List Edge) (e : Edge) → Has e edges → Has (record { node = node; edge = e }) (map (λ edge. let p : PlacedEdge = record { node = node; edge = edge } in p) edges)
placed node [] e h = absurd h
placed node (x ∷ edges) e (inl s) = inl (ap (λ edge. let p : PlacedEdge = record { node = node; edge = edge } in p) s)
placed node (x ∷ edges) e (inr h) = inr (placed node edges e h)

told-in : (graphs : List LocalGraph) (g : LocalGraph) (e : Edge) → Has g graphs → Has e g.edges → Has (record { node = g.node; edge = e }) (edges_of graphs)
told-in [] g e h k = absurd h
told-in (x ∷ graphs) g e (inl s) k = subst (λ (y : LocalGraph). Has (record { node = g.node; edge = e }) (map (λ edge. let p : PlacedEdge = record { node = y.node; edge = edge } in p) y.edges ++ edges_of graphs)) (sym s) (has-left (record { node = g.node; edge = e }) _ (edges_of graphs) (placed g.node g.edges e k))
told-in (x ∷ graphs) g e (inr h) k = has-right (record { node = g.node; edge = e }) _ (edges_of graphs) (told-in graphs g e h k)

-- each segment's is among those that were reported, and no other
from-has : (w0 : World) (k : ℕ) (rs : List (Option LocalGraph)) → AreFrom w0 k rs → list_all is_some rs ≡ true → (i : ℕ) → k ≤ i → i < k + length rs → Has (graph_then w0 i) (filter_map (λ r. r) rs)
from-has w0 k [] e a i l h = absurd (none k i l h)
  where
    none : (k i : ℕ) → k ≤ i → i < k + 0 → ⊥
    none k i l h = omega arith
from-has w0 k (None ∷ rs) e a i l h = absurd (cc)
from-has w0 k (Some g ∷ rs) e a i l h = by_test (eqb k i) refl (λ m. from-has w0 (k + 1) rs e.1 a i m (on k (length rs) i h))
  where
    on : (k n i : ℕ) → i < k + suc n → i < k + 1 + n
    on k n i h = omega arith

    by_test : (b : Bool) → eqb k i ≡ b → (k + 1 ≤ i → Has (graph_then w0 i) (filter_map (λ r. r) rs)) → Has (graph_then w0 i) (g ∷ filter_map (λ r. r) rs)
    by_test true q later = inl (e.0 ∙ ap (graph_then w0) (eqb-true k i q))
    by_test false q later = inr (later (le-apart k i l q))

has-from : (w0 : World) (k : ℕ) (rs : List (Option LocalGraph)) → AreFrom w0 k rs → (g : LocalGraph) → Has g (filter_map (λ r. r) rs) → (i : ℕ) × (k ≤ i) × (i < k + length rs) × (g ≡ graph_then w0 i)
has-from w0 k [] e g h = absurd h
has-from w0 k (None ∷ rs) e g h = let a = has-from w0 (k + 1) rs e.1 g h in (a.0, less k a.0 a.1, more k (length rs) a.0 a.2, a.3)
  where
    less : (k i : ℕ) → k + 1 ≤ i → k ≤ i
    less k i l = omega arith

    more : (k n i : ℕ) → i < k + 1 + n → i < k + suc n
    more k n i l = omega arith
has-from w0 k (Some x ∷ rs) e g (inl s) = (k, first k, last k (length rs), sym s ∙ e.0)
  where
    first : (k : ℕ) → k ≤ k
    first k = omega arith

    last : (k n : ℕ) → k < k + suc n
    last k n = omega arith
has-from w0 k (Some x ∷ rs) e g (inr h) = let a = has-from w0 (k + 1) rs e.1 g h in (a.0, less k a.0 a.1, more k (length rs) a.0 a.2, a.3)
  where
    less : (k i : ℕ) → k + 1 ≤ i → k ≤ i
    less k i l = omega arith

    more : (k n i : ℕ) → i < k + 1 + n → i < k + suc n
    more k n i l = omega arith

-- WHAT THEY SAY
module _ (script : Script) (some : 1 ≤ script.segments) (es : List (Event × Bool)) (rs : List (Option LocalGraph)) (size : length rs ≡ script.segments) (from : AreFrom (world_of script es) 1 rs) (full : list_all is_some rs ≡ true) where
  abbrev w : World
  w = world_of script es

  abbrev ms : List Mark
  ms = marks_in (world_of script es).steps

  abbrev graphs : List LocalGraph
  graphs = graph_at (world_of script es).coord.locks ∷ filter_map (λ r. r) rs

  marked : AreLocksMarked (world_of script es)
  marked = (world-locked script some es).marked

  rounded : Rounded script (world_of script es)
  rounded = world-rounded script some es

  one : (i : ℕ) → (i == 0) ≡ false → 1 ≤ i
  one i e = grind (arith, nat_tests)

  within-from : (i n m : ℕ) → i ≤ n → m ≡ n → i < 1 + m
  within-from i n m l e = omega arith

  from-within : (i n m : ℕ) → i < 1 + m → m ≡ n → i ≤ n
  from-within i n m l e = omega arith

  -- an edge of a node's graph stands there
  edge-stands : (n : Node) (l : Locks) → IsMarked ms n l → (e : Edge) → Has e (graph_at l).edges → IsEdge (waits_at ms n) (holds_at ms n) e
  edge-stands n l m e h =
      subst (λ hs. IsEdge (waits_at ms n) hs e) m.holds (subst (λ ws. IsEdge ws l.holds e) m.waits ((are_edges l.waits l.holds).no_others e (contains_from_has e (graph_at l).edges h)))

  stands-edge : (n : Node) (l : Locks) → IsMarked ms n l → (e : Edge) → IsEdge (waits_at ms n) (holds_at ms n) e → Has e (graph_at l).edges
  stands-edge n l m e s =
      has_from_contains e (graph_at l).edges ((are_edges l.waits l.holds).all_of_them e (subst (λ hs. IsEdge l.waits hs e) (sym m.holds) (subst (λ ws. IsEdge ws (holds_at ms n) e) (sym m.waits) s)))

  at-node : (e : PlacedEdge) (node : Node) → node ≡ e.node → Has (record { node = node; edge = e.edge }) (edges_of graphs) → Contains (edges_of graphs) e
  at-node e node same h = contains_from_has e (edges_of graphs) (subst (λ n. Has (record { node = n; edge = e.edge }) (edges_of graphs)) same h)

  same-node : (n : Node) (i : ℕ) → n.0 ≡ i → record { 0 = i } ≡ n
  same-node n i e = ap (λ k. let x : Node = record { 0 = k } in x) (sym e)

  all-in : (e : PlacedEdge) → e.node.0 ≤ script.segments → StandsAt ms e → Contains (edges_of graphs) e
  all-in e within s = by_node (e.node.0 == 0) refl
    where
      by_node : (b : Bool) → (e.node.0 == 0) ≡ b → Contains (edges_of graphs) e
      by_node true q =
          let here : the_coordinator ≡ e.node = same-node e.node 0 (eqb-true e.node.0 0 q) in
          at-node e w.coord.locks.node (rounded.coord.own ∙ here)
          (told-in graphs (graph_at w.coord.locks) e.edge (inl refl) (stands-edge the_coordinator w.coord.locks marked.coordinator e.edge (subst (λ n. IsEdge (waits_at ms n) (holds_at ms n) e.edge) (sym here) s)))
      by_node false q =
          let i = e.node.0 in
          at-node e (w.segs i).locks.node ((rounded.segments i (one i q)).own)
          (told-in graphs (graph_then w i) e.edge (inr (from-has w 1 rs from full i (one i q) (within-from i script.segments (length rs) within size))) (stands-edge e.node (w.segs i).locks (marked.segments i (one i q)) e.edge s))

  only-these : (e : PlacedEdge) → Contains (edges_of graphs) e → (e.node.0 ≤ script.segments) × StandsAt ms e
  only-these e c = by_graph (told-by graphs e (has_from_contains e (edges_of graphs) c))
    where
      least : (n : ℕ) → 0 ≤ n
      least n = omega arith

      there : (g : LocalGraph) → e.node ≡ g.node → Has e.edge g.edges → (i : ℕ) × (1 ≤ i) × (i < 1 + length rs) × (g ≡ graph_then w i) → (e.node.0 ≤ script.segments) × StandsAt ms e
      there g place told a =
          let is : e.node ≡ at a.0 = place ∙ ap (λ (x : LocalGraph). x.node) a.3 ∙ (rounded.segments a.0 a.1).own in (
            subst (λ (n : Node). n.0 ≤ script.segments) (sym is) (from-within a.0 script.segments (length rs) a.2 size),
            subst (λ n. IsEdge (waits_at ms n) (holds_at ms n) e.edge) (sym is) (edge-stands (at a.0) (w.segs a.0).locks (marked.segments a.0 a.1) e.edge (subst (λ (x : LocalGraph). Has e.edge x.edges) a.3 told)),
          )

      by_graph : IsToldBy graphs e → (e.node.0 ≤ script.segments) × StandsAt ms e
      by_graph t = by_among t.among
        where
          by_among : Has t.graph graphs → (e.node.0 ≤ script.segments) × StandsAt ms e
          by_among (inl s) =
              let is : e.node ≡ the_coordinator = t.place ∙ ap (λ (x : LocalGraph). x.node) (sym s) ∙ rounded.coord.own in (
                subst (λ (n : Node). n.0 ≤ script.segments) (sym is) (least script.segments),
                subst (λ n. IsEdge (waits_at ms n) (holds_at ms n) e.edge) (sym is) (edge-stands the_coordinator w.coord.locks marked.coordinator e.edge (subst (λ (x : LocalGraph). Has e.edge x.edges) (sym s) t.told)),
              )
          by_among (inr h) = there t.graph t.place t.told (has-from w 1 rs from t.graph h)

  pub are-all : AreAllWaits script (marks_in (world_of script es).steps) (edges_of (graph_at (world_of script es).coord.locks ∷ filter_map (λ r. r) rs))
  are-all = record { all_of_them = all-in; no_others = only-these }

-- THE VERDICT
pub decided-then : (script : Script) (some : 1 ≤ script.segments) (inserts : AreInsertsWhole script.tables script.lines) (es : List (Event × Bool)) → list_all (is_round_or_opening script (world_of script es).steps) (enabled script (world_of script es).steps) ≡ true
    → AreLinesNumbered [] script.lines → All (λ line. line.session.0 < length script.sessions) script.lines → (n : Node) → n.0 ≤ script.segments → (wait : Claim) → Has wait (locks_at (world_of script es) n).waits → Decided script (world_of script es)
decided-then script some inserts es nothing numbered sessions n within wait h rs size from full =
    let are = are-all script some es rs size from full in
    let waits = waiter-waits script some inserts es nothing numbered sessions edges are n within wait h in
    let e = has_from_any (λ (x : PlacedEdge). x.edge.waiter ≡ wait.gxid) edges waits in
    names-somebody (marks_in w.steps) edges (active_in w.coord.table) (verdict_of edges (active_in w.coord.table)) e.0 (all-blocked script some inserts es nothing numbered sessions edges are)
    (world-active script some es (world_knows script some es) (world-holds script some es)).all (contains_from_has e.0 edges e.1) (is_verdict_of edges (active_in w.coord.table))
  where
    w : World
    w = world_of script es

    edges : List PlacedEdge
    edges = edges_of (graph_at (world_of script es).coord.locks ∷ filter_map (λ r. r) rs)
