-- The core of what is stuck, as a list: it is closed, and each of its waiters is waited for in it.
use Rattle.std.proofs.Common.{◌≡◌, inl, inr, List, ◌∷◌, refl, sym, subst, ap, ◌∙◌}
use Rattle.std.specs.Prelude.{◌↔◌, IsTrue, Any, Contains, All}
use Rattle.gx_waits.proofs.Members.{Has, all_from_each, any_from_has, contains_from_has, each_from_all, has_from_any, has_from_contains}
use Rattle.gx_waits.specs.Closed.{IsClosed, IsStuck, IsWithin, Waits, WaitsAt}
use Rattle.gx_waits.specs.Victims.{IsInCore}
use Rattle.gx_waits.specs.declared.placed_edge.PlacedEdge.{PlacedEdge}

-- what is stuck in some of the edges is stuck in all of them
pub stuck-more : (edges more : List PlacedEdge) → IsWithin edges more → (e : PlacedEdge) → IsStuck edges e → IsStuck more e
stuck-more edges more within e k =
    record {
      set = k.set;
      closed = k.closed;
      within = all_from_each (λ f. Contains more f) k.set (λ f h.
          each_from_all (λ f. Contains more f) edges within f (has_from_contains f edges (each_from_all (λ f. Contains edges f) k.set k.within f h)));
      member = k.member;
    }

-- an edge of a closed set that is stuck is one of the edges
stuck-there : (edges : List PlacedEdge) (e : PlacedEdge) → IsStuck edges e → Contains edges e
stuck-there edges e k = each_from_all (λ f. Contains edges f) k.set k.within e (has_from_contains e k.set k.member)

module _ (edges core : List PlacedEdge) (exact : (e : PlacedEdge) → Contains core e ↔ IsInCore edges e) where
  part-of : (e : PlacedEdge) → Has e core → IsInCore edges e
  part-of e h = (exact e).0 (contains_from_has e core h)

  member-of : (e : PlacedEdge) → IsInCore edges e → Has e core
  member-of e k = has_from_contains e core ((exact e).1 k)

  pub core-stuck : (e : PlacedEdge) → Has e core → IsStuck edges e
  core-stuck e h = let k = part-of e h in each_from_all (λ f. IsStuck edges f) k.part k.is_part.stuck e (has_from_contains e k.part k.member)

  pub core-within : IsWithin core edges
  core-within = all_from_each (λ e. Contains edges e) core (λ e h. stuck-there edges e (core-stuck e h))

  pub core-waited : All (λ e. Any (λ f. f.edge.holder ≡ e.edge.waiter) core) core
  core-waited =
      all_from_each (λ e. Any (λ f. f.edge.holder ≡ e.edge.waiter) core) core (λ e h.
      let k = part-of e h in
      let f = has_from_any (λ f. f.edge.holder ≡ e.edge.waiter) k.part (each_from_all (λ e. Any (λ f. f.edge.holder ≡ e.edge.waiter) k.part) k.part k.is_part.waited_for e (has_from_contains e k.part k.member)) in
      any_from_has (λ f. f.edge.holder ≡ e.edge.waiter) core f.0 (member-of f.0 (record { part = k.part; is_part = k.is_part; member = contains_from_has f.0 k.part f.1 })) f.2)

  -- a stuck edge is a member where a member waits for its waiter
  module _ (e f : PlacedEdge) (h : Has e core) (stuck : IsStuck edges f) (same : f.edge.waiter ≡ e.edge.holder) where
    abbrev part : List PlacedEdge
    part = f ∷ (part-of e h).part

    waited : (g : PlacedEdge) → Has g part → Any (λ x. x.edge.holder ≡ g.edge.waiter) part
    waited g (inl s) =
        any_from_has (λ x. x.edge.holder ≡ g.edge.waiter) part e (inr (has_from_contains e (part-of e h).part (part-of e h).member)) (sym same ∙ ap (λ (x : PlacedEdge). x.edge.waiter) s)
    waited g (inr m) =
        let x = has_from_any (λ x. x.edge.holder ≡ g.edge.waiter) (part-of e h).part
        (each_from_all (λ g. Any (λ x. x.edge.holder ≡ g.edge.waiter) (part-of e h).part) (part-of e h).part (part-of e h).is_part.waited_for g m) in
        any_from_has (λ x. x.edge.holder ≡ g.edge.waiter) part x.0 (inr x.1) x.2

    each-stuck : (g : PlacedEdge) → Has g part → IsStuck edges g
    each-stuck g (inl s) = subst (IsStuck edges) s stuck
    each-stuck g (inr m) = each_from_all (λ g. IsStuck edges g) (part-of e h).part (part-of e h).is_part.stuck g m

    onward : Has f core
    onward =
        member-of f
        (record {
          part = part;
          is_part = record { stuck = all_from_each (λ g. IsStuck edges g) part each-stuck; waited_for = all_from_each (λ g. Any (λ x. x.edge.holder ≡ g.edge.waiter) part) part waited };
          member = contains_from_has f part (inl refl);
        })

  -- so all who are waited for wait in it
  member-stuck : (e f : PlacedEdge) (h : Has e core) → Has f (core-stuck e h).set → IsStuck edges f
  member-stuck e f h m = let k = core-stuck e h in record { set = k.set; closed = k.closed; within = k.within; member = contains_from_has f k.set m }

  pub core-closed : IsClosed core
  core-closed =
      record {
        holders_wait = all_from_each (λ e. Waits core e.edge.holder) core (λ e h.
            let k = core-stuck e h in
            let f = has_from_any (λ f. f.edge.waiter ≡ e.edge.holder) k.set (each_from_all (λ e. Waits k.set e.edge.holder) k.set k.closed.holders_wait e (has_from_contains e k.set k.member)) in
            any_from_has (λ f. f.edge.waiter ≡ e.edge.holder) core f.0 (onward e f.0 h (member-stuck e f.0 h f.1) f.2) f.2);
        dotted_holders_wait_there = all_from_each (λ e. IsTrue e.edge.dotted → WaitsAt core e.node e.edge.holder) core (λ e h d.
            let k = core-stuck e h in
            let f = has_from_any (λ f. (f.node ≡ e.node) × (f.edge.waiter ≡ e.edge.holder)) k.set
            (each_from_all (λ e. IsTrue e.edge.dotted → WaitsAt k.set e.node e.edge.holder) k.set k.closed.dotted_holders_wait_there e (has_from_contains e k.set k.member) d) in
            any_from_has (λ f. (f.node ≡ e.node) × (f.edge.waiter ≡ e.edge.holder)) core f.0 (onward e f.0 h (member-stuck e f.0 h f.1) f.2.1) f.2);
      }
