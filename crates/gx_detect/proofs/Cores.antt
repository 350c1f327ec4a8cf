-- The edges that are stuck, and their core, as they are computed.
use Rattle.std.proofs.Common.{◌≡◌, ℕ, zero, suc, List, [], Bool, true, false, ◌==◌, filter, length, refl, sym, ap, subst, ◌∙◌, arith}
use Rattle.std.proofs.lemmas.Bool.{eqb-true, eq-eqb}
use Rattle.std.proofs.lemmas.Bool.Decides.{nat_tests}
use Rattle.std.specs.Prelude.{IsTrue}
use Rattle.std.specs.List.{Any, Contains}
use Rattle.gx_waits.specs.declared.placed_edge.PlacedEdge.{PlacedEdge}
use Rattle.gx_waits.specs.Closed.{IsClosed, IsStuck, Waits, WaitsAt}
use Rattle.gx_waits.specs.Victims.{IsInCore}
use Rattle.gx_waits.proofs.Determined.{same_gxid}
use Rattle.gx_waits.proofs.Members.{Has, all_from_each, any_from_has, contains_from_has, each_from_all, has_from_any, has_from_contains}
use Rattle.gx_detect.specs.Place.{need_of, waits_in}
use Rattle.gx_detect.specs.Verdicts.{core_of, is_needed, is_waited_for, stay_for, stuck_of}
use Rattle.gx_detect.proofs.Staying.{backed, backer, part_stays, stay_backed, stay_within}
use Rattle.gx_detect.proofs.Stuck.{dotted_holder_waits, has_filter, holder_waits}

-- WHAT IS STUCK
abbrev pub needs : PlacedEdge → PlacedEdge → Bool
needs e f = waits_in (need_of e) f

needed_if : (e f : PlacedEdge) → (e.edge.dotted ≡ true → f.node ≡ e.node) → f.edge.waiter ≡ e.edge.holder → needs e f ≡ true
needed_if e f there waits = go e.edge.dotted refl
  where
    go : (b : Bool) → e.edge.dotted ≡ b → needs e f ≡ true
    go true d = let n : f.node.0 ≡ e.node.0 = ap (λ n. n.0) (there d) in let w : f.edge.waiter.0 ≡ e.edge.holder.0 = ap (λ g. g.0) waits in grind (arith, nat_tests)
    go false d = let w : f.edge.waiter.0 ≡ e.edge.holder.0 = ap (λ g. g.0) waits in grind (arith, nat_tests)

pub closed_needs : (set : List PlacedEdge) → IsClosed set → (e : PlacedEdge) → Has e set → is_needed set e ≡ true
closed_needs set closed e h = go e.edge.dotted refl
  where
    never : true ≡ false → ⊥
    never e = cc

    go : (b : Bool) → e.edge.dotted ≡ b → is_needed set e ≡ true
    go true d =
        let f = has_from_any (λ f. (f.node ≡ e.node) × (f.edge.waiter ≡ e.edge.holder)) set
        (each_from_all (λ e. IsTrue e.edge.dotted → WaitsAt set e.node e.edge.holder) set closed.dotted_holders_wait_there e h d) in
        backed needs set e f.0 f.1 (needed_if e f.0 (λ x. f.2.0) f.2.1)
    go false d =
        let f = has_from_any (λ f. f.edge.waiter ≡ e.edge.holder) set (each_from_all (λ e. Waits set e.edge.holder) set closed.holders_wait e h) in
        backed needs set e f.0 f.1 (needed_if e f.0 (λ t. absurd (never (sym t ∙ d))) f.2)

module _ (edges : List PlacedEdge) where
  pub stuck_needs : (e : PlacedEdge) → Has e (stuck_of edges) → (f : PlacedEdge) × Has f (stuck_of edges) × (needs e f ≡ true)
  stuck_needs e h = backer needs (stuck_of edges) e (stay_backed needs (length edges) edges (omega arith) e h)

  stuck_closed : IsClosed (stuck_of edges)
  stuck_closed = record {
    holders_wait = all_from_each (λ e. Waits (stuck_of edges) e.edge.holder) (stuck_of edges) (λ e h.
        let f = stuck_needs e h in
        any_from_has (λ f. f.edge.waiter ≡ e.edge.holder) (stuck_of edges) f.0 f.1 (holder_waits e f.0 f.2));
    dotted_holders_wait_there = all_from_each (λ e. IsTrue e.edge.dotted → WaitsAt (stuck_of edges) e.node e.edge.holder) (stuck_of edges) (λ e h d.
        let f = stuck_needs e h in
        any_from_has (λ f. (f.node ≡ e.node) × (f.edge.waiter ≡ e.edge.holder)) (stuck_of edges) f.0 f.1
        (dotted_holder_waits e f.0 f.2 d, holder_waits e f.0 f.2));
  }

  pub is_stuck : (e : PlacedEdge) → Has e (stuck_of edges) → IsStuck edges e
  is_stuck e h = record {
    set = stuck_of edges;
    closed = stuck_closed;
    within = all_from_each (λ e. Contains edges e) (stuck_of edges) (λ f m. contains_from_has f edges (stay_within needs (length edges) edges f m));
    member = contains_from_has e (stuck_of edges) h;
  }

  pub has_stuck : (e : PlacedEdge) → IsStuck edges e → Has e (stuck_of edges)
  has_stuck e k =
      part_stays needs k.set (closed_needs k.set k.closed) (length edges) edges
      (λ f m. has_from_contains f edges (each_from_all (λ e. Contains edges e) k.set k.within f m)) e (has_from_contains e k.set k.member)

  pub stuck_exact : (e : PlacedEdge) → (Contains (stuck_of edges) e → IsStuck edges e) × (IsStuck edges e → Contains (stuck_of edges) e)
  stuck_exact e = (λ c. is_stuck e (has_from_contains e (stuck_of edges) c), λ k. contains_from_has e (stuck_of edges) (has_stuck e k))

-- THE CORE
abbrev pub awaits : PlacedEdge → PlacedEdge → Bool
awaits e f = f.edge.holder.0 == e.edge.waiter.0

awaits_if : (e f : PlacedEdge) → f.edge.holder ≡ e.edge.waiter → awaits e f ≡ true
awaits_if e f same = eq-eqb f.edge.holder.0 e.edge.waiter.0 (ap (λ g. g.0) same)

pub awaited : (e f : PlacedEdge) → awaits e f ≡ true → f.edge.holder ≡ e.edge.waiter
awaited e f t = same_gxid f.edge.holder e.edge.waiter (eqb-true f.edge.holder.0 e.edge.waiter.0 t)

module _ (edges : List PlacedEdge) where
  pub is_in_core : (e : PlacedEdge) → Has e (core_of edges) → IsInCore edges e
  is_in_core e h = record {
    part = core_of edges;
    is_part = record {
      stuck = all_from_each (λ e. IsStuck edges e) (core_of edges)
          (λ f m. is_stuck edges f (stay_within awaits (length (stuck_of edges)) (stuck_of edges) f m));
      waited_for = all_from_each (λ e. Any (λ f. f.edge.holder ≡ e.edge.waiter) (core_of edges)) (core_of edges) (λ e h.
          let f = backer awaits (core_of edges) e (stay_backed awaits (length (stuck_of edges)) (stuck_of edges) (omega arith) e h) in
          any_from_has (λ f. f.edge.holder ≡ e.edge.waiter) (core_of edges) f.0 f.1 (awaited e f.0 f.2));
    };
    member = contains_from_has e (core_of edges) h;
  }

  pub has_core : (e : PlacedEdge) → IsInCore edges e → Has e (core_of edges)
  has_core e k =
      part_stays awaits k.part
      (λ f m. let g = has_from_any (λ g. g.edge.holder ≡ f.edge.waiter) k.part (each_from_all (λ e. Any (λ f. f.edge.holder ≡ e.edge.waiter) k.part) k.part k.is_part.waited_for f m) in
      backed awaits k.part f g.0 g.1 (awaits_if f g.0 g.2))
      (length (stuck_of edges)) (stuck_of edges)
      (λ f m. has_stuck edges f (each_from_all (λ e. IsStuck edges e) k.part k.is_part.stuck f m)) e (has_from_contains e k.part k.member)

-- WHERE NOTHING IS LEFT
-- each edge has one that waits where it ends
abbrev GoesOn : List PlacedEdge → Type 0
GoesOn edges = (e : PlacedEdge) → Has e edges → (f : PlacedEdge) × Has f edges × (f.edge.waiter ≡ e.edge.holder)

next_awaited : (edges : List PlacedEdge) → GoesOn edges → (e : PlacedEdge) → Has e edges
    → (f : PlacedEdge) × Has f (filter (is_waited_for edges) edges) × (f.edge.waiter ≡ e.edge.holder)
next_awaited edges on e h =
    let f = on e h in
    (f.0, has_filter (is_waited_for edges) edges f.0 f.1 (backed awaits edges f.0 e h (awaits_if f.0 e (sym f.2))), f.2)

some_stays : (n : ℕ) (edges : List PlacedEdge) → GoesOn edges → (e : PlacedEdge) → Has e edges → (f : PlacedEdge) × Has f (stay_for n is_waited_for edges)
some_stays zero edges on e h = (e, h)
some_stays (suc n) edges on e h =
    let f = next_awaited edges on e h in
    some_stays n (filter (is_waited_for edges) edges) (λ g m. next_awaited edges on g (kept g m)) f.0 f.1
  where
    kept : (g : PlacedEdge) → Has g (filter (is_waited_for edges) edges) → Has g edges
    kept g m = stay_within awaits 1 edges g m

pub none_stuck : (edges : List PlacedEdge) → core_of edges ≡ [] → (e : PlacedEdge) → IsStuck edges e → ⊥
none_stuck edges empty e k =
    let f = some_stays (length (stuck_of edges)) (stuck_of edges)
    (λ g m. let w = stuck_needs edges g m in (w.0, w.1, holder_waits g w.0 w.2)) e (has_stuck edges e k) in
    subst (λ es. Has f.0 es) empty f.1
