-- Whoever a round names is the youngest of a core that is blocked when it is named, and was so when the step before ended; nobody of
-- that core can finish, however the others go on, and nobody who was named before is in it.
use Rattle.std.proofs.Common.{◌≡◌, ◌<◌, ◌⊎◌, inl, inr, ℕ, zero, suc, ◌+◌, Bool, true, false, not, List, [], ◌∷◌, ◌++◌, refl, sym, subst, ap, ◌∙◌, append-nil, arith, length, map}
use Rattle.std.proofs.lemmas.Bool.Decides.{nat_tests}
use Rattle.std.specs.Prelude.{◌↔◌, Contains, filter}
use Rattle.gx_lemmas.proofs.Tests.{true-false}
use Rattle.gx_ids.specs.declared.ids.Gxid.{Gxid}
use Rattle.gx_ids.specs.declared.ids.Node.{Node}
use Rattle.gx_script.specs.declared.Script.{Script}
use Rattle.gx_meaning.specs.Plan.{nodes_from}
use Rattle.gx_waits.proofs.Members.{Has, all_from_each, contains_from_has, each_from_all, has_from_contains}
use Rattle.gx_waits.proofs.StuckWaits.{stuck_never_finishes}
use Rattle.gx_waits.specs.Closed.{IsClosed, IsNamedIn, IsNamedInStuck, IsWithin}
use Rattle.gx_waits.specs.Edge.{names}
use Rattle.gx_waits.specs.LocalGraph.{edges_of}
use Rattle.gx_waits.specs.Victims.{AreVictims, IsGreatestInCore, IsInCore}
use Rattle.gx_waits.specs.declared.edge.Edge.{Edge}
use Rattle.gx_waits.specs.declared.graph.LocalGraph.{LocalGraph}
use Rattle.gx_waits.specs.declared.placed_edge.PlacedEdge.{PlacedEdge}
use Rattle.gx_detect.proofs.Cores.{has_core, is_in_core}
use Rattle.gx_detect.proofs.Stuck.{filter_has}
use Rattle.gx_detect.specs.Verdicts.{core_of}
use Rattle.gx_locks.proofs.Edges.{are_edges}
use Rattle.gx_store.specs.Cancelled.{AreVictimsAt, IsVictimAt, wait_graph, waits_in}
use Rattle.gx_store.specs.declared.mark.Mark.{Mark}
use Rattle.gx_store.specs.Points.{Point, before, marks_in}
use Rattle.gx_store.specs.Refusals.{the_coordinator}
use Rattle.gx_store.specs.Rounds.{IsBlocked, StandsAt, is_active}
use Rattle.gx_store.specs.Schedule.{segments_of}
use Rattle.gx_store.specs.Waits.{holds_at, waits_at}
use Rattle.gx_law_locks.specs.Gathered.{AreGathered}
use Rattle.gx_law_locks.specs.Reports.{IsStuckBlocked}
use Rattle.gx_law_locks.proofs.SameClaims.{has-front}
use Rattle.gx_law_locks.proofs.Cores.{core-closed, core-waited, core-within}
use Rattle.gx_law_locks.proofs.Gathered.{closed-blocked, has-place, place-short}
use Rattle.gx_law_locks.proofs.Graphs.{IsToldBy, has-split, told-by}

-- ALL WAITS OF A SCRIPT'S NODES
has-behind : {A : Type 0} (x : A) (xs ys : List A) → Has x ys → Has x (xs ++ ys)
has-behind x [] ys h = h
has-behind x (y ∷ xs) ys h = inr (has-behind x xs ys h)

has-placed : (node : Node) (edges : List Edge) (e : PlacedEdge) → node ≡ e.node → Has e.edge edges → Has e (map (λ edge. record { node = node; edge = edge }) edges)
has-placed node [] e same h = absurd h
has-placed node (x ∷ edges) e same (inl s) = inl (ap (λ n. record { node = n; edge = x }) same ∙ ap (λ x. record { node = e.node; edge = x }) s)
has-placed node (x ∷ edges) e same (inr h) = inr (has-placed node edges e same h)

-- an edge that stands at one of these nodes is among the edges of their waits
has-standing : (marks : List Mark) (nodes : List Node) (e : PlacedEdge) → Has e.node nodes → StandsAt marks e → Has e (edges_of (map (wait_graph marks) nodes))
has-standing marks [] e h stands = absurd h
has-standing marks (n ∷ nodes) e (inl same) stands =
    has-front e (map (λ edge. record { node = n; edge = edge }) (wait_graph marks n).edges) (edges_of (map (wait_graph marks) nodes))
    (has-placed n (wait_graph marks n).edges e same (has_from_contains e.edge (wait_graph marks n).edges
    (subst (λ m. Contains (wait_graph marks m).edges e.edge) (sym same) ((are_edges (waits_at marks e.node) (holds_at marks e.node)).all_of_them e.edge stands))))
has-standing marks (n ∷ nodes) e (inr h) stands = has-behind e (map (λ edge. record { node = n; edge = edge }) (wait_graph marks n).edges) (edges_of (map (wait_graph marks) nodes)) (has-standing marks nodes e h stands)

abbrev node-of : ℕ → Node
node-of n = record { 0 = n }

has-node : (k from count : ℕ) → k < count → Has (node-of (k + from)) (nodes_from from count)
has-node k from zero short = absurd (omega arith)
has-node zero from (suc count) short = inl (ap node-of (self from))
  where
    self : (n : ℕ) → n ≡ zero + n
    self n = omega arith
has-node (suc k) from (suc count) short = inr (subst (λ n. Has (node-of n) (nodes_from (from + 1) count)) (next k from) (has-node k (from + 1) count (omega arith)))
  where
    next : (k n : ℕ) → k + (n + 1) ≡ suc k + n
    next k n = omega arith

-- WHO IS NAMED
named-test : (w : Gxid) (e : PlacedEdge) → IsNamedIn e w → names w e.edge ≡ true
named-test w e (inl p) = let n : e.edge.waiter.0 ≡ w.0 = ap (λ (g : Gxid). g.0) p in grind (arith, nat_tests)
named-test w e (inr p) = let n : e.edge.holder.0 ≡ w.0 = ap (λ (g : Gxid). g.0) p in grind (arith, nat_tests)

not-true : (b : Bool) → not b ≡ true → b ≡ false
not-true true e = absurd (cc)
not-true false e = refl

module _ (script : Script) (point : Point) (first : point.earlier ≡ []) (own : LocalGraph) (reports : List LocalGraph) (many : length reports ≡ script.segments) (are : AreGathered (before point) own reports)
    (law : IsStuckBlocked (before point)) (active : (g : Gxid) → IsNamedInStuck (edges_of (own ∷ reports)) g → is_active (before point) g ≡ true)
  where
    -- each edge of the graphs is of a node of the script
    at-node : (e : PlacedEdge) → Has e (edges_of (own ∷ reports)) → Has e.node (the_coordinator ∷ segments_of script)
    at-node e h = by_graph (told-by (own ∷ reports) e h)
      where
        by_graph : IsToldBy (own ∷ reports) e → Has e.node (the_coordinator ∷ segments_of script)
        by_graph t = by_place t.among
          where
            by_place : Has t.graph (own ∷ reports) → Has e.node (the_coordinator ∷ segments_of script)
            by_place (inl s) = inl (sym are.here.place ∙ ap (λ (g : LocalGraph). g.node) s ∙ sym t.place)
            by_place (inr m) =
                let p = has-place t.graph reports m in
                inr (subst (λ n. Has n (segments_of script)) (sym (are.nodes p.0 t.graph p.1) ∙ sym t.place) (has-node p.0 1 script.segments (subst (λ n. p.0 < n) many (place-short reports p.0 t.graph p.1))))

    module _ (edges : List PlacedEdge) (named : List Gxid) (v : Gxid) (within : IsWithin edges (edges_of (own ∷ reports)))
        (away : (e : PlacedEdge) (w : Gxid) → Has e edges → Has w named → names w e.edge ≡ false) (greatest : IsGreatestInCore edges v)
      where
        exact : (e : PlacedEdge) → Contains (core_of edges) e ↔ IsInCore edges e
        exact e = (λ c. is_in_core edges e (has_from_contains e (core_of edges) c), λ k. contains_from_has e (core_of edges) (has_core edges e k))

        closed : IsClosed (core_of edges)
        closed = core-closed edges (core_of edges) exact

        inside : (e : PlacedEdge) → Has e (core_of edges) → Has e edges
        inside e h = has_from_contains e edges (each_from_all (λ e. Contains edges e) (core_of edges) (core-within edges (core_of edges) exact) e h)

        gathered : (e : PlacedEdge) → Has e (core_of edges) → Has e (edges_of (own ∷ reports))
        gathered e h = has_from_contains e (edges_of (own ∷ reports)) (each_from_all (λ e. Contains (edges_of (own ∷ reports)) e) edges within e (inside e h))

        blocked : IsBlocked (before point) (core_of edges)
        blocked =
            closed-blocked (before point) own reports are law active (core_of edges) closed
            (all_from_each (λ e. Contains (edges_of (own ∷ reports)) e) (core_of edges) (λ e h. contains_from_has e (edges_of (own ∷ reports)) (gathered e h)))

        among : IsWithin (core_of edges) (waits_in script (before point))
        among =
            all_from_each (λ e. Contains (waits_in script (before point)) e) (core_of edges) (λ e h.
            contains_from_has e (waits_in script (before point)) (has-standing (before point) (the_coordinator ∷ segments_of script) e (at-node e (gathered e h)) (each_from_all (StandsAt (before point)) (core_of edges) blocked.standing e h)))

        is-victim : IsVictimAt script point edges named v
        is-victim =
            record {
              set = core_of edges;
              core = exact;
              blocked = blocked;
              blocked_before = subst (λ marks. IsBlocked marks (core_of edges)) (ap (λ ms. marks_in point.steps ++ ms) first ∙ append-nil (marks_in point.steps)) blocked;
              youngest = record {
                member = (greatest.named.0, (exact greatest.named.0).1 greatest.named.1, greatest.named.2);
                youngest = λ w n. greatest.greatest w (n.0, (exact n.0).0 n.1, n.2);
              };
              waited_for = core-waited edges (core_of edges) exact;
              never = λ w n. stuck_never_finishes (waits_in script (before point)) w (n.0, record { set = core_of edges; closed = closed; within = among; member = n.1 }, n.2);
              others = λ w c n. true-false (names w n.0.edge) (named-test w n.0 n.2) (away n.0 w (inside n.0 (has_from_contains n.0 (core_of edges) n.1)) (has_from_contains w named c));
            }

    -- ONE BEHIND THE OTHER
    are-victims : (edges : List PlacedEdge) (named victims : List Gxid) → IsWithin edges (edges_of (own ∷ reports)) → ((e : PlacedEdge) (w : Gxid) → Has e edges → Has w named → names w e.edge ≡ false) → AreVictims edges victims
        → AreVictimsAt script point edges named victims
    are-victims edges named [] within away are = tt
    are-victims edges named (v ∷ victims) within away all = (is-victim edges named v within away all.0, are-victims left (named ++ v ∷ []) victims left_within left_away all.1)
      where
        left : List PlacedEdge
        left = filter (λ e. not (names v e.edge)) edges

        kept : (e : PlacedEdge) → Has e left → Has e edges × (not (names v e.edge) ≡ true)
        kept e h = filter_has (λ (e : PlacedEdge). not (names v e.edge)) edges e h

        left_within : IsWithin left (edges_of (own ∷ reports))
        left_within = all_from_each (λ e. Contains (edges_of (own ∷ reports)) e) left (λ e h. each_from_all (λ e. Contains (edges_of (own ∷ reports)) e) edges within e (kept e h).0)

        left_away : (e : PlacedEdge) (w : Gxid) → Has e left → Has w (named ++ v ∷ []) → names w e.edge ≡ false
        left_away e w h m = by_part (has-split w named (v ∷ []) m)
          where
            by_part : Has w named ⊎ Has w (v ∷ []) → names w e.edge ≡ false
            by_part (inl k) = away e w (kept e h).0 k
            by_part (inr (inl s)) = subst (λ g. names g e.edge ≡ false) s (not-true (names v e.edge) (kept e h).1)
            by_part (inr (inr k)) = absurd k

    pub rightly-named : (victims : List Gxid) → AreVictims (edges_of (own ∷ reports)) victims → AreVictimsAt script point (edges_of (own ∷ reports)) [] victims
    rightly-named victims all =
        are-victims (edges_of (own ∷ reports)) [] victims (all_from_each (λ e. Contains (edges_of (own ∷ reports)) e) (edges_of (own ∷ reports)) (λ e h. contains_from_has e (edges_of (own ∷ reports)) h)) (λ e w h m. absurd m) all
