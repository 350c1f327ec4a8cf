-- The largest parts that reductions leave are what is stuck, and the core of that.
use Rattle.std.proofs.Common.{◌≡◌, ◌<◌, ℕ, zero, suc, List, [], ◌∷◌, true, inl, inr, ⊎_elim, length, sym, refl, ap, subst, ◌∙◌, arith}
use Rattle.std.specs.List.{count_by, Contains, Any}
use Rattle.std.specs.Prelude.{IsTrue}
use Rattle.gx_waits.specs.declared.placed_edge.PlacedEdge.{PlacedEdge}
use Rattle.gx_waits.specs.Closed.{IsClosed, IsStuck, Waits, WaitsAt}
use Rattle.gx_waits.specs.Victims.{IsInCore}
use Rattle.gx_waits.proofs.Members.{Has, all_from_each, any_from_has, contains_from_has, each_from_all, has_from_contains}
use Rattle.gx_detect.specs.declared.place.Aim.{Aim}
use Rattle.gx_detect.specs.declared.place.Aim.TheVariants.{Stuck, Core}
use Rattle.gx_detect.specs.declared.place.Place.{Place}
use Rattle.gx_detect.specs.declared.place.Place.TheVariants.{Awaited}
use Rattle.gx_detect.specs.Core.{IsCore}
use Rattle.gx_detect.specs.Place.{need_of, waits_in}
use Rattle.gx_detect.specs.Reduce.{is_left}
use Rattle.gx_detect.specs.Reducing.{AreAmong, IsBacked}
use Rattle.gx_detect.specs.Settled.{HasStuck, IsLargest}
use Rattle.gx_detect.specs.Verdicts.{core_of, stuck_of}
use Rattle.gx_detect.proofs.Cores.{awaited, awaits, closed_needs, has_core, is_stuck, needs, none_stuck, stuck_needs}
use Rattle.gx_detect.proofs.Marks.{none_counted, some_counted}
use Rattle.gx_detect.proofs.Staying.{backer, stay_backed, stay_within}
use Rattle.gx_detect.proofs.Stuck.{dotted_holder_waits, holder_waits, left_test, test_left}

-- CLOSED SETS
abbrev HoldersWait : List PlacedEdge → Type 0
HoldersWait set = (e : PlacedEdge) → Contains set e → (f : PlacedEdge) × Contains set f × (waits_in (need_of e) f ≡ true)

closed_if : (set : List PlacedEdge) → HoldersWait set → IsClosed set
closed_if set wait = record {
  holders_wait = all_from_each (λ e. Waits set e.edge.holder) set (λ e h.
      let f = wait e (contains_from_has e set h) in
      any_from_has (λ f. f.edge.waiter ≡ e.edge.holder) set f.0 (has_from_contains f.0 set f.1) (holder_waits e f.0 f.2));
  dotted_holders_wait_there = all_from_each (λ e. IsTrue e.edge.dotted → WaitsAt set e.node e.edge.holder) set (λ e h d.
      let f = wait e (contains_from_has e set h) in
      any_from_has (λ f. (f.node ≡ e.node) × (f.edge.waiter ≡ e.edge.holder)) set f.0 (has_from_contains f.0 set f.1)
      (dotted_holder_waits e f.0 f.2 d, holder_waits e f.0 f.2));
}

closed_waits : (set : List PlacedEdge) → IsClosed set → HoldersWait set
closed_waits set closed e c =
    let f = backer needs set e (closed_needs set closed e (has_from_contains e set c)) in
    (f.0, contains_from_has f.0 set f.1, f.2)

holders : (aim : Aim) (set : List PlacedEdge) → IsBacked aim set → HoldersWait set
holders Stuck set backed e c = backed e c (need_of e) refl
holders Core set backed e c = backed e c (need_of e) (inl refl)

closed_backed : (set : List PlacedEdge) → IsClosed set → IsBacked Stuck set
closed_backed set closed e c p n = subst (λ q. (f : PlacedEdge) × Contains set f × (waits_in q f ≡ true)) n (closed_waits set closed e c)

pub part_is_stuck : (aim : Aim) (edges part : List PlacedEdge) → IsLargest aim edges part → (e : PlacedEdge) → Contains part e → IsStuck edges e
part_is_stuck aim edges part largest e c = record {
  set = part;
  closed = closed_if part (holders aim part largest.backed);
  within = all_from_each (λ f. Contains edges f) part (λ f h. largest.among f (contains_from_has f part h));
  member = c;
}

-- WHAT IS STUCK
module _ (edges part : List PlacedEdge) (largest : IsLargest Stuck edges part) where
  pub stuck_is_part : (e : PlacedEdge) → IsStuck edges e → Contains part e
  stuck_is_part e k =
      largest.whole k.set (closed_backed k.set k.closed) (λ f c. each_from_all (λ x. Contains edges x) k.set k.within f (has_from_contains f k.set c)) e k.member

  -- an edge whose holder waits in it is in it
  joins : (e f : PlacedEdge) → Contains edges e → Contains part f → waits_in (need_of e) f ≡ true → Contains part e
  joins e f c m w = largest.whole (e ∷ part)
      (λ x h p n. subst (λ q. (g : PlacedEdge) × Contains (e ∷ part) g × (waits_in q g ≡ true)) n (⊎_elim
      (λ (s : e ≡ x). subst (λ y. (g : PlacedEdge) × Contains (e ∷ part) g × (waits_in (need_of y) g ≡ true)) s (f, more f m, w))
      (λ (t : Has x part). let g = largest.backed x (contains_from_has x part t) (need_of x) refl in (g.0, more g.0 g.1, g.2))
      (has_from_contains x (e ∷ part) h)))
      (λ x h. ⊎_elim (λ (s : e ≡ x). subst (λ y. Contains edges y) s c) (λ (t : Has x part). largest.among x (contains_from_has x part t)) (has_from_contains x (e ∷ part) h))
      e (contains_from_has e (e ∷ part) (inl refl))
    where
      more : (g : PlacedEdge) → Contains part g → Contains (e ∷ part) g
      more g m = contains_from_has g (e ∷ part) (inr (has_from_contains g part m))

  module _ (count : Place → ℕ) (counts : (p : Place) → count p ≡ count_by (waits_in p) part) where
    pub left_is_stuck : (e : PlacedEdge) → Contains edges e → is_left count e ≡ true → IsStuck edges e
    left_is_stuck e c t =
        let f = some_counted (waits_in (need_of e)) part (subst (λ n. 0 < n) (counts (need_of e)) (test_left count e t)) in
        part_is_stuck Stuck edges part largest e (joins e f.0 c (contains_from_has f.0 part f.1) f.2)

    pub stuck_is_left : (e : PlacedEdge) → IsStuck edges e → is_left count e ≡ true
    stuck_is_left e k = left_test count e (go (count (need_of e)) refl)
      where
        go : (n : ℕ) → count (need_of e) ≡ n → 0 < n
        go zero z =
            let f = largest.backed e (stuck_is_part e k) (need_of e) refl in
            absurd (none_counted (waits_in (need_of e)) part f.0 (sym (counts (need_of e)) ∙ z) (has_from_contains f.0 part f.1) f.2)
        go (suc n) z = omega arith

-- THE CORE
-- who is waited for in the core and waits in a stuck edge waits in the core
in_core_too : (edges : List PlacedEdge) (e f : PlacedEdge) → Has e (core_of edges) → Has f (stuck_of edges) → f.edge.waiter ≡ e.edge.holder → IsInCore edges f
in_core_too edges e f h m w = record {
  part = f ∷ core_of edges;
  is_part = record {
    stuck = all_from_each (λ x. IsStuck edges x) (f ∷ core_of edges) (λ x t. ⊎_elim
        (λ (s : f ≡ x). subst (λ y. IsStuck edges y) s (is_stuck edges f m))
        (λ (n : Has x (core_of edges)). is_stuck edges x (stay_within awaits (length (stuck_of edges)) (stuck_of edges) x n)) t);
    waited_for = all_from_each (λ x. Any (λ g. g.edge.holder ≡ x.edge.waiter) (f ∷ core_of edges)) (f ∷ core_of edges) (λ x t. ⊎_elim
        (λ (s : f ≡ x). any_from_has (λ g. g.edge.holder ≡ x.edge.waiter) (f ∷ core_of edges) e (inr h) (sym w ∙ ap (λ y. y.edge.waiter) s))
        (λ (n : Has x (core_of edges)). let g = held x n in any_from_has (λ g. g.edge.holder ≡ x.edge.waiter) (f ∷ core_of edges) g.0 (inr g.1) g.2) t);
  };
  member = contains_from_has f (f ∷ core_of edges) (inl refl);
}
  where
    held : (x : PlacedEdge) → Has x (core_of edges) → (g : PlacedEdge) × Has g (core_of edges) × (g.edge.holder ≡ x.edge.waiter)
    held x n = let g = backer awaits (core_of edges) x (stay_backed awaits (length (stuck_of edges)) (stuck_of edges) (omega arith) x n) in (g.0, g.1, awaited x g.0 g.2)

core_backed : (edges : List PlacedEdge) → IsBacked Core (core_of edges)
core_backed edges e c p n =
    let h = has_from_contains e (core_of edges) c in ⊎_elim
    (λ (s : need_of e ≡ p).
    let f = stuck_needs edges e (stay_within awaits (length (stuck_of edges)) (stuck_of edges) e h) in
    let k : (f : PlacedEdge) × Contains (core_of edges) f × (waits_in (need_of e) f ≡ true) =
    (f.0, contains_from_has f.0 (core_of edges) (has_core edges f.0 (in_core_too edges e f.0 h f.1 (holder_waits e f.0 f.2))), f.2) in
    subst (λ q. (f : PlacedEdge) × Contains (core_of edges) f × (waits_in q f ≡ true)) s k)
    (λ (s : Awaited e.edge.waiter ≡ p).
    let f = backer awaits (core_of edges) e (stay_backed awaits (length (stuck_of edges)) (stuck_of edges) (omega arith) e h) in
    let k : (f : PlacedEdge) × Contains (core_of edges) f × (waits_in (Awaited e.edge.waiter) f ≡ true) = (f.0, contains_from_has f.0 (core_of edges) f.1, f.2) in
    subst (λ q. (f : PlacedEdge) × Contains (core_of edges) f × (waits_in q f ≡ true)) s k)
    n

waiters_held : (part : List PlacedEdge) → IsBacked Core part → (e : PlacedEdge) → Contains part e → (f : PlacedEdge) × Contains part f × (f.edge.holder ≡ e.edge.waiter)
waiters_held part backed e c = let f = backed e c (Awaited e.edge.waiter) (inr refl) in (f.0, f.1, awaited e f.0 f.2)

core_among : (edges : List PlacedEdge) → AreAmong (core_of edges) edges
core_among edges e c =
    let k = is_stuck edges e (stay_within awaits (length (stuck_of edges)) (stuck_of edges) e (has_from_contains e (core_of edges) c)) in
    each_from_all (λ x. Contains edges x) k.set k.within e (has_from_contains e k.set k.member)

module _ (edges part : List PlacedEdge) (largest : IsLargest Core edges part) where
  core_is_part : (e : PlacedEdge) → Has e (core_of edges) → Contains part e
  core_is_part e h = largest.whole (core_of edges) (core_backed edges) (core_among edges) e (contains_from_has e (core_of edges) h)

  pub is_core : IsCore edges part
  is_core = record {
    part = record {
      stuck = all_from_each (λ e. IsStuck edges e) part (λ e h. part_is_stuck Core edges part largest e (contains_from_has e part h));
      waited_for = all_from_each (λ e. Any (λ f. f.edge.holder ≡ e.edge.waiter) part) part (λ e h.
          let f = waiters_held part largest.backed e (contains_from_has e part h) in
          any_from_has (λ f. f.edge.holder ≡ e.edge.waiter) part f.0 (has_from_contains f.0 part f.1) f.2);
    };
    whole = λ e c. core_is_part e (has_core edges e c);
    closed = closed_if part (holders Core part largest.backed);
  }

  -- where the core is empty nothing is stuck
  pub none_stuck_beside : ((e : PlacedEdge) → Contains part e → ⊥) → (e : PlacedEdge) → IsStuck edges e → ⊥
  none_stuck_beside empty = none_stuck edges (nil (core_of edges) (λ e h. empty e (core_is_part e h)))
    where
      nil : (xs : List PlacedEdge) → ((e : PlacedEdge) → Has e xs → ⊥) → xs ≡ []
      nil [] none = refl
      nil (x ∷ xs) none = absurd (none x (inl refl))

-- the core is that of the stuck edges alone
pub largest_of_all : (all some part : List PlacedEdge) → HasStuck all some → IsLargest Core some part → IsLargest Core all part
largest_of_all all some part has largest = record {
  among = λ e c. has.among e (largest.among e c);
  backed = largest.backed;
  whole = λ set backed among. largest.whole set backed (λ e c. has.stuck e (record {
    set = set;
    closed = closed_if set (holders Core set backed);
    within = all_from_each (λ f. Contains all f) set (λ f h. among f (contains_from_has f set h));
    member = c;
  }));
}

stands : (edges : List PlacedEdge) (e : PlacedEdge) → IsStuck edges e → Contains edges e
stands edges e k = each_from_all (λ x. Contains edges x) k.set k.within e (has_from_contains e k.set k.member)

pub all_have_stuck : (edges : List PlacedEdge) → HasStuck edges edges
all_have_stuck edges = record { among = λ e c. c; stuck = stands edges }

pub stuck_have_stuck : (edges stuck : List PlacedEdge) → ((e : PlacedEdge) → (Contains stuck e → IsStuck edges e) × (IsStuck edges e → Contains stuck e)) → HasStuck edges stuck
stuck_have_stuck edges stuck exact = record { among = λ e c. stands edges e ((exact e).0 c); stuck = λ e k. (exact e).1 k }
