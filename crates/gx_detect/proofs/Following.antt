-- A reduction from its beginning to its end, and on from there.
use Rattle.std.proofs.Common.{◌≡◌, ◌<◌, ℕ, zero, suc, List, [], ◌∷◌, ◌++◌, Bool, true, false, not, ◌⊎◌, inl, inr, ⊎_elim, length, slice_get, Some, sym, refl, ap, subst, ◌∙◌, arith}
use Rattle.std.proofs.lemmas.Bool.Decides.{nat_tests}
use Rattle.std.proofs.lemmas.List.Elements.{Contains-push_cases}
use Rattle.std.specs.List.{Contains}
use Rattle.gx_ids.specs.declared.ids.Gxid.{Gxid}
use Rattle.gx_waits.specs.declared.placed_edge.PlacedEdge.{PlacedEdge}
use Rattle.gx_waits.specs.Edge.{names}
use Rattle.gx_waits.proofs.Members.{has_from_contains, contains_from_has}
use Rattle.gx_waits.proofs.Determined.{same_gxid}
use Rattle.gx_detect.specs.declared.place.Aim.{Aim}
use Rattle.gx_detect.specs.declared.place.Aim.TheVariants.{Core}
use Rattle.gx_detect.specs.declared.place.Place.{Place}
use Rattle.gx_detect.specs.declared.place.Place.TheVariants.{Awaited}
use Rattle.gx_detect.specs.declared.rest.Rest.{Rest}
use Rattle.gx_detect.specs.declared.wants.Wants.{Wants}
use Rattle.gx_detect.specs.Place.{Needs, need_of, waits_in}
use Rattle.gx_detect.specs.Tally.{count_at}
use Rattle.gx_detect.specs.Wants.{AreListed, needing}
use Rattle.gx_detect.specs.Reducing.{AreNoted, AreNotedBut, AreTakenOut, IsBacked, IsCounted, IsDone, IsFollowed, left_of, rest_of}
use Rattle.gx_detect.specs.Settled.{IsLargest}
use Rattle.gx_detect.specs.Verdicts.{edges_without}
use Rattle.gx_detect.proofs.Marks.{get_below, left_place, none_counted, some_counted}
use Rattle.gx_detect.proofs.Removing.{out_among}
use Rattle.gx_detect.proofs.Stuck.{has_filter, filter_has, holder_waits}

pub none_followed : (aim : Aim) (edges : List PlacedEdge) (old new : Rest) → rest_of edges old ≡ rest_of edges new → IsFollowed aim edges old new
none_followed aim edges old new same = record {
  among = λ e c. subst (λ l. Contains l e) (sym same) c;
  stay = λ set backed among e c. subst (λ l. Contains l e) same (among e c);
}

pub more_followed : (aim : Aim) (edges : List PlacedEdge) (old mid new : Rest) → IsFollowed aim edges old mid → IsFollowed aim edges mid new → IsFollowed aim edges old new
more_followed aim edges old mid new a b = record {
  among = λ e c. a.among e (b.among e c);
  stay = λ set backed among. b.stay set backed (a.stay set backed among);
}

same_edge_at : (edges : List PlacedEdge) (k : ℕ) (e f : PlacedEdge) → slice_get edges k ≡ Some e → slice_get edges k ≡ Some f → f ≡ e
same_edge_at edges k e f a b = cc

-- the edges are taken out that need the place
module _ (edges : List PlacedEdge) (wants : Wants) (listed : AreListed edges (length edges) wants) (p : Place) (old new : Rest)
    (counted : IsCounted edges old) (taken : AreTakenOut edges (needing wants p) old new) where
  -- what doesn't need it stays
  pub kept_or_needs : (e : PlacedEdge) → Contains (rest_of edges old) e → Contains (rest_of edges new) e ⊎ Needs wants.aim e p
  kept_or_needs e c = ⊎_elim
      (λ (m : Contains (rest_of edges new) e). inl m)
      (λ (n : (k : ℕ) × Contains (needing wants p) k × (slice_get edges k ≡ Some e)).
      let o = listed.no_others p n.0 n.1 in
      inr (subst (λ x. Needs wants.aim x p) (same_edge_at edges n.0 e o.0 n.2 o.1) o.2))
      (taken.kept e c)

  -- what needs it doesn't
  pub needs_none : (e : PlacedEdge) → Contains (rest_of edges new) e → Needs wants.aim e p → ⊥
  needs_none e c n =
      let at = left_place edges new.marks.items e (has_from_contains e (rest_of edges new) c) in
      taken.out at.0 (listed.all_of_them at.0 (get_below edges at.0 e at.1) e at.1 p n) at.2

  pub place_followed : count_at old.tally p ≡ 0 → IsFollowed wants.aim edges old new
  place_followed empty = record {
    among = out_among edges (needing wants p) old new taken;
    stay = λ set backed among e c. ⊎_elim
        (λ (m : Contains (rest_of edges new) e). m)
        (λ (n : Needs wants.aim e p).
        let f = backed e c p n in
        absurd (none_counted (waits_in p) (rest_of edges old) f.0 (sym (counted.counts p) ∙ empty) (has_from_contains f.0 (rest_of edges old) (among f.0 f.1)) f.2))
        (kept_or_needs e (among e c));
  }

  -- what lacks something then is noted, where before only what needed this place wasn't
  pub noted_after : AreNotedBut p wants.aim edges old → AreNoted wants.aim edges new
  noted_after noted e c q n z = ⊎_elim
      (λ (m : count_at old.tally q ≡ 0). ⊎_elim
      (λ (f : Contains old.freed.items q). taken.still_freed q f)
      (λ (s : p ≡ q). absurd (needs_none e c (subst (Needs wants.aim e) (sym s) n)))
      (noted e (out_among edges (needing wants p) old new taken e c) q n m))
      (λ (f : Contains new.freed.items q). f)
      (taken.freed q z)

-- the last of the freed places is looked at
pub noted_but_last : (aim : Aim) (edges : List PlacedEdge) (p : Place) (old new : Rest) → AreNoted aim edges old → new.marks ≡ old.marks → new.tally ≡ old.tally
    → old.freed.items ≡ new.freed.items ++ p ∷ [] → AreNotedBut p aim edges new
noted_but_last aim edges p old new noted marks tally popped e c q n z =
    Contains-push_cases new.freed.items p q (subst (λ l. Contains l q) popped
    (noted e (subst (λ m. Contains (left_of edges m.items) e) marks c) q n (subst (λ t. count_at t q ≡ 0) tally z)))

pub all_done : (aim : Aim) (edges : List PlacedEdge) (rest : Rest) → AreNoted aim edges rest → rest.freed.items ≡ [] → IsDone aim edges rest
all_done aim edges rest noted none e c p n = go (count_at rest.tally p) refl
  where
    go : (k : ℕ) → count_at rest.tally p ≡ k → 0 < k
    go zero z = absurd (has_from_contains p [] (subst (λ l. Contains l p) none (noted e c p n z)))
    go (suc k) z = omega arith

pub done_same : (aim : Aim) (edges : List PlacedEdge) (old new : Rest) → new.marks ≡ old.marks → new.tally ≡ old.tally → IsDone aim edges old → IsDone aim edges new
done_same aim edges old new marks tally done e c p n =
    subst (λ t. 0 < count_at t p) (sym tally) (done e (subst (λ m. Contains (left_of edges m.items) e) marks c) p n)

-- what is left at the end has in it what its edges need
pub done_backed : (aim : Aim) (edges : List PlacedEdge) (rest : Rest) → IsCounted edges rest → IsDone aim edges rest → IsBacked aim (rest_of edges rest)
done_backed aim edges rest counted done e c p n =
    let f = some_counted (waits_in p) (rest_of edges rest) (subst (λ k. 0 < k) (counted.counts p) (done e c p n)) in
    (f.0, contains_from_has f.0 (rest_of edges rest) f.1, f.2)

pub largest : (aim : Aim) (edges : List PlacedEdge) (old new : Rest) → rest_of edges old ≡ edges → IsCounted edges new → IsDone aim edges new → IsFollowed aim edges old new
    → IsLargest aim edges (rest_of edges new)
largest aim edges old new all counted done followed = record {
  among = λ e c. subst (λ l. Contains l e) all (followed.among e c);
  backed = done_backed aim edges new counted done;
  whole = λ set backed among. followed.stay set backed (λ e c. subst (λ l. Contains l e) (sym all) (among e c));
}

pub noted_if_done : (aim : Aim) (edges : List PlacedEdge) (rest : Rest) (p : Place) → IsDone aim edges rest → AreNotedBut p aim edges rest
noted_if_done aim edges rest p done e c q n z = let some = done e c q n in absurd (never (count_at rest.tally q) some z)
  where
    never : (k : ℕ) → 0 < k → k ≡ 0 → ⊥
    never k l z = omega arith

-- WITHOUT A TRANSACTION
unnamed : (v : Gxid) (e : PlacedEdge) → (e.edge.waiter ≡ v → ⊥) → (e.edge.holder ≡ v → ⊥) → not (names v e.edge) ≡ true
unnamed v e waits holds =
    let a : e.edge.waiter.0 ≡ v.0 → ⊥ = λ s. waits (same_gxid e.edge.waiter v s) in
    let b : e.edge.holder.0 ≡ v.0 → ⊥ = λ s. holds (same_gxid e.edge.holder v s) in
    grind (arith, nat_tests, a, b)

named_not : (v : Gxid) (e : PlacedEdge) → not (names v e.edge) ≡ true → e.edge.waiter ≡ v → ⊥
named_not v e t s = let n : e.edge.waiter.0 ≡ v.0 = ap (λ g. g.0) s in grind (arith, nat_tests)

needs_awaited : (v : Gxid) (e : PlacedEdge) → Needs Core e (Awaited v) → e.edge.waiter ≡ v
needs_awaited v e (inl s) = absurd (go e.edge.dotted refl)
  where
    go : (b : Bool) → e.edge.dotted ≡ b → ⊥
    go true d = grind (arith, nat_tests)
    go false d = grind (arith, nat_tests)
needs_awaited v e (inr s) = cc

module _ (all edges : List PlacedEdge) (wants : Wants) (core : wants.aim ≡ Core) (listed : AreListed edges (length edges) wants) (v : Gxid) (old mid new : Rest)
    (counted : IsCounted edges old) (taken : AreTakenOut edges (needing wants (Awaited v)) old mid) (followed : IsFollowed wants.aim edges mid new)
    (new_counted : IsCounted edges new) (done : IsDone wants.aim edges new) (was : IsLargest Core all (rest_of edges old)) where
  doesnt_wait : (e : PlacedEdge) → Contains (rest_of edges new) e → e.edge.waiter ≡ v → ⊥
  doesnt_wait e c s = needs_none edges wants listed (Awaited v) old mid counted taken e (followed.among e c)
      (subst (λ a. Needs a e (Awaited v)) (sym core) (inr (ap Awaited s)))

  backed : IsBacked Core (rest_of edges new)
  backed = done_backed Core edges new new_counted (subst (λ a. IsDone a edges new) core done)

  isnt_held : (e : PlacedEdge) → Contains (rest_of edges new) e → e.edge.holder ≡ v → ⊥
  isnt_held e c s = let f = backed e c (need_of e) (inl refl) in doesnt_wait f.0 f.1 (holder_waits e f.0 f.2 ∙ s)

  pub largest_without : IsLargest Core (edges_without v all) (rest_of edges new)
  largest_without = record {
    among = λ e c. contains_from_has e (edges_without v all) (has_filter (λ x. not (names v x.edge)) all e
        (has_from_contains e all (was.among e (out_among edges (needing wants (Awaited v)) old mid taken e (followed.among e c))))
        (unnamed v e (doesnt_wait e c) (isnt_held e c)));
    backed = backed;
    whole = λ set back among. followed.stay set (subst (λ a. IsBacked a set) (sym core) back) (λ e c.
        let f = filter_has (λ x. not (names v x.edge)) all e (has_from_contains e (edges_without v all) (among e c)) in
        ⊎_elim
        (λ (m : Contains (rest_of edges mid) e). m)
        (λ (n : Needs wants.aim e (Awaited v)). absurd (named_not v e f.1 (needs_awaited v e (subst (λ a. Needs a e (Awaited v)) core n))))
        (kept_or_needs edges wants listed (Awaited v) old mid counted taken e
        (was.whole set back (λ x d. contains_from_has x all (filter_has (λ y. not (names v y.edge)) all x (has_from_contains x (edges_without v all) (among x d))).0) e c)));
  }
