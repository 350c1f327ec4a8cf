-- The end of a run that can't go on.
use Rattle.std.proofs.Common.{◌≡◌, ◌<◌, ◌≤◌, ℕ, List, [], ◌∷◌, Bool, true, false, refl, subst, arith, length, ◌⊎◌, inl, inr, ◌++◌, cond, sym, ap, ◌∙◌}
use Rattle.std.specs.Prelude.{◌↔◌, Contains, map, filter}
use Rattle.std.proofs.lemmas.List.Elements.{All-contains, Contains-append_cases, Contains-append_left, Contains-append_right, Contains-push, Contains-push_cases, filter_passes}
use Rattle.gx_ids.specs.declared.ids.Node.{Node}
use Rattle.gx_waits.specs.Closed.{IsStuck}
use Rattle.gx_waits.specs.LocalGraph.{edges_of}
use Rattle.gx_waits.specs.declared.edge.Edge.{Edge}
use Rattle.gx_waits.specs.declared.graph.LocalGraph.{LocalGraph}
use Rattle.gx_waits.specs.declared.placed_edge.PlacedEdge.{PlacedEdge}
use Rattle.gx_detect.specs.Reduce.{kept_edges}
use Rattle.gx_detect.proofs.Graphs.{edges_of-kept_edges}
use Rattle.gx_script.specs.declared.Script.{Script}
use Rattle.gx_store.specs.Cancelled.{wait_graph, waits_in}
use Rattle.gx_store.specs.Points.{marks_in}
use Rattle.gx_store.specs.Refusals.{the_coordinator}
use Rattle.gx_store.specs.Groups.{enabled_in}
use Rattle.gx_store.specs.Schedule.{is_any_unfinished, segments_of}
use Rattle.gx_store.specs.declared.run.Step.{Step}
use Rattle.gx_drive.specs.Ends.{AreStuckAt, AreStuckWaits, AreThose, IsEnd}
use Rattle.gx_drive.specs.declared.end.End.TheVariants.{Done, Stuck, Turns}

never : {A : Type 0} (b : Bool) → b ≡ true → b ≡ false → A
never b t f = absurd (cc)

stuck-done : {A : Type 0} (graphs : List LocalGraph) → Stuck graphs ≡ Done → A
stuck-done graphs e = absurd (cc)

stuck-turns : {A : Type 0} (graphs : List LocalGraph) → Stuck graphs ≡ Turns → A
stuck-turns graphs e = absurd (cc)

same-graphs : (graphs others : List LocalGraph) → Stuck graphs ≡ Stuck others → graphs ≡ others
same-graphs graphs others e = cc

apart : {A : Type 0} (m n : ℕ) → m < n → m ≡ n → A
apart m n h e = absurd (omega (arith, h, e))

below : (m n : ℕ) → m < n → m ≤ n
below m n h = omega (arith, h)

module _ (script : Script) (steps : List Step) (turns : ℕ) where
  pub stuck-ends : (graphs : List LocalGraph) → length steps < turns → is_any_unfinished script steps ≡ true → enabled_in script steps ≡ [] → AreStuckWaits script steps graphs → IsEnd script steps turns (Stuck graphs)
  stuck-ends graphs left some nothing waits = record {
    within = below (length steps) turns left;
    done = (λ e. stuck-done graphs e, λ e. never (is_any_unfinished script steps) some e);
    spent = (λ e. stuck-turns graphs e, λ t. apart (length steps) turns left t.all);
    stuck = (λ h. record { left = left; unfinished = some; nothing = nothing }, λ t. (graphs, refl));
    waits = λ others e. subst (AreStuckWaits script steps) (same-graphs graphs others e) waits;
  }

-- WHAT IS LEFT OF A LIST
contains-none : {A : Type 0} {B : Type 0} (x : A) → Contains [] x → B
contains-none x c = absurd (below c.1)
  where
    below : {n : ℕ} → n < 0 → ⊥
    below l = omega arith

-- an item of a list is its first, or one of the others
contains-parts : {A : Type 0} (y : A) (ys : List A) (x : A) → Contains (y ∷ ys) x → (y ≡ x) ⊎ Contains ys x
contains-parts y ys x c = by_part (Contains-append_cases (y ∷ []) ys x c)
  where
    by_first : Contains [] x ⊎ (y ≡ x) → (y ≡ x) ⊎ Contains ys x
    by_first (inl none) = contains-none x none
    by_first (inr same) = inl same

    by_part : Contains (y ∷ []) x ⊎ Contains ys x → (y ≡ x) ⊎ Contains ys x
    by_part (inl first) = by_first (Contains-push_cases [] y x first)
    by_part (inr later) = inr later

contains-first : {A : Type 0} (y : A) (ys : List A) → Contains (y ∷ ys) y
contains-first y ys = Contains-append_left (y ∷ []) ys y (Contains-push [] y)

contains-filter : {A : Type 0} (p : A → Bool) (xs : List A) (x : A) → p x ≡ true → Contains xs x → Contains (filter p xs) x
contains-filter p [] x t c = contains-none x c
contains-filter p (y ∷ ys) x t c = by_part (contains-parts y ys x c) (λ later. contains-filter p ys x t later)
  where
    by_test : (b : Bool) → Contains (filter p ys) x → Contains (cond b (y ∷ filter p ys) (filter p ys)) x
    by_test true later = Contains-append_right (y ∷ []) (filter p ys) x later
    by_test false later = later

    by_part : (y ≡ x) ⊎ Contains ys x → (Contains ys x → Contains (filter p ys) x) → Contains (cond (p y) (y ∷ filter p ys) (filter p ys)) x
    by_part (inl same) f =
        subst (λ b. Contains (cond b (y ∷ filter p ys) (filter p ys)) x) (sym (ap p same ∙ t)) (subst (λ z. Contains (y ∷ filter p ys) z) same (contains-first y (filter p ys)))
    by_part (inr later) f = by_test (p y) (f later)

contains-map : {A B : Type 0} (f : A → B) (xs : List A) (x : A) → Contains xs x → Contains (map f xs) (f x)
contains-map f [] x c = contains-none x c
contains-map f (y ∷ ys) x c = by_part (contains-parts y ys x c) (λ later. contains-map f ys x later)
  where
    by_part : (y ≡ x) ⊎ Contains ys x → (Contains ys x → Contains (map f ys) (f x)) → Contains (f y ∷ map f ys) (f x)
    by_part (inl same) g = subst (λ z. Contains (f y ∷ map f ys) (f z)) same (contains-first (f y) (map f ys))
    by_part (inr later) g = Contains-append_right (f y ∷ []) (map f ys) (f x) (g later)

-- those that pass a test, where the test says what holds
those-that-pass : (P : PlacedEdge → Type 0) (test : PlacedEdge → Bool) (node : Node) (es : List Edge)
    → ((e : Edge) → Contains es e → (test (record { node = node; edge = e }) ≡ true → P (record { node = node; edge = e })) × (P (record { node = node; edge = e }) → test (record { node = node; edge = e }) ≡ true))
    → AreThose P node es (filter (λ e. test (record { node = node; edge = e })) es)
those-that-pass P test node [] says = refl
those-that-pass P test node (e ∷ es) says = by_test (test (record { node = node; edge = e })) refl (those-that-pass P test node es (λ x c. says x (Contains-append_right (e ∷ []) es x c)))
  where
    rest : List Edge
    rest = filter (λ e. test (record { node = node; edge = e })) es

    here : (test (record { node = node; edge = e }) ≡ true → P (record { node = node; edge = e })) × (P (record { node = node; edge = e }) → test (record { node = node; edge = e }) ≡ true)
    here = says e (contains-first e es)

    by_test : (b : Bool) → test (record { node = node; edge = e }) ≡ b → AreThose P node es (filter (λ e. test (record { node = node; edge = e })) es)
        → AreThose P node (e ∷ es) (cond b (e ∷ filter (λ e. test (record { node = node; edge = e })) es) (filter (λ e. test (record { node = node; edge = e })) es))
    by_test true t later = inl (here.0 t, (rest, refl, later))
    by_test false t later = inr ((λ p. never (test (record { node = node; edge = e })) (here.1 p) t), later)

-- what reducing the waits of all nodes leaves
module _ (script : Script) (steps : List Step) where
  -- node by node
  stuck-at : (test : PlacedEdge → Bool) (nodes : List Node)
      → ((node : Node) (e : Edge) → Contains (edges_of (map (wait_graph (marks_in steps)) nodes)) (record { node = node; edge = e }) → test (record { node = node; edge = e }) ≡ true → IsStuck (waits_in script (marks_in steps)) (record { node = node; edge = e }))
      → ((x : PlacedEdge) → IsStuck (waits_in script (marks_in steps)) x → test x ≡ true)
      → AreStuckAt script (marks_in steps) nodes (map (kept_edges test) (map (wait_graph (marks_in steps)) nodes))
  stuck-at test [] passes says = refl
  stuck-at test (n ∷ ns) passes says =
      let g : LocalGraph = wait_graph (marks_in steps) n in
      let rest : List PlacedEdge = edges_of (map (wait_graph (marks_in steps)) ns) in (
        refl,
        those-that-pass (IsStuck (waits_in script (marks_in steps))) test n g.edges
            (λ e c. (passes n e (Contains-append_left (map (λ (x : Edge). let y : PlacedEdge = record { node = n; edge = x } in y) g.edges) rest (record { node = n; edge = e }) (contains-map (λ (x : Edge). let y : PlacedEdge = record { node = n; edge = x } in y) g.edges e c)), says (record { node = n; edge = e }))),
        stuck-at test ns (λ node e c. passes node e (Contains-append_right (map (λ (x : Edge). let y : PlacedEdge = record { node = n; edge = x } in y) g.edges) rest (record { node = node; edge = e }) c)) says,
      )

  pub reduced-are : (graphs rest : List LocalGraph) → graphs ≡ map (wait_graph (marks_in steps)) (the_coordinator ∷ segments_of script) → ((e : PlacedEdge) → Contains (edges_of rest) e ↔ IsStuck (edges_of graphs) e)
      → (test : PlacedEdge → Bool) × (rest ≡ map (kept_edges test) graphs) → AreStuckWaits script steps rest
  reduced-are graphs rest is left kept =
      record { edges = edges-are; nodes = subst (AreStuckAt script (marks_in steps) nodes) (sym rest-is) (stuck-at test nodes passes says) }
    where
      nodes : List Node
      nodes = the_coordinator ∷ segments_of script

      test : PlacedEdge → Bool
      test = kept.0

      rest-is : rest ≡ map (kept_edges kept.0) (map (wait_graph (marks_in steps)) (the_coordinator ∷ segments_of script))
      rest-is = kept.1 ∙ ap (map (kept_edges kept.0)) is

      edges-are : (e : PlacedEdge) → Contains (edges_of rest) e ↔ IsStuck (waits_in script (marks_in steps)) e
      edges-are = subst (λ (gs : List LocalGraph). (e : PlacedEdge) → Contains (edges_of rest) e ↔ IsStuck (edges_of gs) e) is left

      among : edges_of rest ≡ filter kept.0 (edges_of (map (wait_graph (marks_in steps)) (the_coordinator ∷ segments_of script)))
      among = ap edges_of rest-is ∙ edges_of-kept_edges kept.0 (map (wait_graph (marks_in steps)) (the_coordinator ∷ segments_of script))

      passes : (node : Node) (e : Edge) → Contains (edges_of (map (wait_graph (marks_in steps)) (the_coordinator ∷ segments_of script))) (record { node = node; edge = e }) → kept.0 (record { node = node; edge = e }) ≡ true
          → IsStuck (waits_in script (marks_in steps)) (record { node = node; edge = e })
      passes node e c t =
          (edges-are (record { node = node; edge = e })).0
          (subst (λ q. Contains q (record { node = node; edge = e })) (sym among) (contains-filter kept.0 (edges_of (map (wait_graph (marks_in steps)) (the_coordinator ∷ segments_of script))) (record { node = node; edge = e }) t c))

      says : (x : PlacedEdge) → IsStuck (waits_in script (marks_in steps)) x → kept.0 x ≡ true
      says x s =
          All-contains (λ y. kept.0 y ≡ true) (filter kept.0 (edges_of (map (wait_graph (marks_in steps)) (the_coordinator ∷ segments_of script)))) x
          (filter_passes kept.0 (edges_of (map (wait_graph (marks_in steps)) (the_coordinator ∷ segments_of script)))) (subst (λ q. Contains q x) among ((edges-are x).1 s))
