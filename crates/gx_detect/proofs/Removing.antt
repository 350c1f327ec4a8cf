-- Edges that are taken out, one after another.
use Rattle.std.proofs.Common.{◌≡◌, ◌<◌, ◌≤◌, ◌+◌, ℕ, zero, suc, List, [], ◌∷◌, ◌++◌, Bool, true, false, ◌⊎◌, inl, inr, ⊎_elim, length, slice_get, set, replicate, Some, sym, refl, ap, subst, ◌∙◌, arith}
use Rattle.std.proofs.lemmas.Bool.Decides.{nat_tests}
use Rattle.std.proofs.lemmas.Bool.{eqb-true}
use Rattle.std.proofs.lemmas.List.{length-set}
use Rattle.std.proofs.lemmas.List.Elements.{Contains-append_left, Contains-append_right, Contains-append_cases}
use Rattle.std.specs.List.{count_by, Contains}
use Rattle.gx_ids.specs.declared.ids.Node.{Node}
use Rattle.gx_waits.specs.declared.placed_edge.PlacedEdge.{PlacedEdge}
use Rattle.gx_waits.proofs.Members.{Has, has_from_contains, contains_from_has}
use Rattle.gx_waits.proofs.Determined.{same_gxid}
use Rattle.gx_detect.specs.declared.place.Place.{Place}
use Rattle.gx_detect.specs.declared.place.Place.TheVariants.{Anywhere, At, Awaited}
use Rattle.gx_detect.specs.declared.rest.Rest.{Rest}
use Rattle.gx_detect.specs.Place.{waits_in, bit}
use Rattle.gx_detect.specs.Tally.{count_at}
use Rattle.gx_detect.specs.Reducing.{AreAmong, AreTakenOut, IsCounted, left_of, rest_of}
use Rattle.gx_detect.proofs.Marks.{left_place, place_left, set_falls, set_out, left_kept, left_length-set, count_by-set, none_counted, all_left, length-replicate_true}

pub same_node : (m n : Node) → m.0 ≡ n.0 → m ≡ n
same_node m n e = λ i. record { 0 = e i }

-- where an edge counts
pub counts_at : (p : Place) (e : PlacedEdge) → waits_in p e ≡ true → (p ≡ Anywhere e.edge.waiter) ⊎ ((p ≡ At e.node e.edge.waiter) ⊎ (p ≡ Awaited e.edge.holder))
counts_at (Anywhere v) e w = inl (ap Anywhere (sym (same_gxid e.edge.waiter v (eqb-true e.edge.waiter.0 v.0 w))))
counts_at (At n v) e w =
    let b : (e.node.0 ≡ n.0) × (e.edge.waiter.0 ≡ v.0) = (grind (arith, nat_tests), grind (arith, nat_tests)) in
    inr (inl (ap (λ m. At m v) (sym (same_node e.node n b.0)) ∙ ap (λ g. At e.node g) (sym (same_gxid e.edge.waiter v b.1))))
counts_at (Awaited v) e w = inr (inr (ap Awaited (sym (same_gxid e.edge.holder v (eqb-true e.edge.holder.0 v.0 w)))))

module _ (edges : List PlacedEdge) where
  pub none_out : (rest : Rest) → AreTakenOut edges [] rest rest
  none_out rest = record {
    fall = λ k e. e;
    out = λ k c. absurd (has_from_contains k [] c);
    kept = λ e c. inl c;
    freed = λ p z. inl z;
    still_freed = λ p c. c;
    work = omega arith;
  }

  pub was_out : (rest : Rest) (k : ℕ) → (slice_get rest.marks.items k ≡ Some true → ⊥) → AreTakenOut edges (k ∷ []) rest rest
  was_out rest k gone = record {
    fall = λ j e. e;
    out = λ j c. ⊎_elim (λ (s : k ≡ j). λ m. gone (ap (slice_get rest.marks.items) s ∙ m)) (λ n. absurd n) (has_from_contains j (k ∷ []) c);
    kept = λ e c. inl c;
    freed = λ p z. inl z;
    still_freed = λ p c. c;
    work = omega arith;
  }

  pub more_out : (xs ys : List ℕ) (old mid new : Rest) → AreTakenOut edges xs old mid → AreTakenOut edges ys mid new → AreTakenOut edges (xs ++ ys) old new
  more_out xs ys old mid new a b = record {
    fall = λ k m. a.fall k (b.fall k m);
    out = λ k c m. ⊎_elim (λ x. a.out k x (b.fall k m)) (λ y. b.out k y m) (Contains-append_cases xs ys k c);
    kept = λ e h. ⊎_elim
        (λ (m : Contains (rest_of edges mid) e). ⊎_elim
        (λ (n : Contains (rest_of edges new) e). inl n)
        (λ (n : (k : ℕ) × Contains ys k × (slice_get edges k ≡ Some e)). inr (n.0, Contains-append_right xs ys n.0 n.1, n.2)) (b.kept e m))
        (λ (n : (k : ℕ) × Contains xs k × (slice_get edges k ≡ Some e)). inr (n.0, Contains-append_left xs ys n.0 n.1, n.2)) (a.kept e h);
    freed = λ p z. ⊎_elim
        (λ (m : count_at mid.tally p ≡ 0). ⊎_elim (λ (n : count_at old.tally p ≡ 0). inl n) (λ (c : Contains mid.freed.items p). inr (b.still_freed p c)) (a.freed p m))
        (λ (c : Contains new.freed.items p). inr c) (b.freed p z);
    still_freed = λ p c. b.still_freed p (a.still_freed p c);
    work = let x = a.work in let y = b.work in omega arith;
  }

  pub out_among : (indexes : List ℕ) (old new : Rest) → AreTakenOut edges indexes old new → AreAmong (rest_of edges new) (rest_of edges old)
  out_among indexes old new t e c =
      let at = left_place edges new.marks.items e (has_from_contains e (rest_of edges new) c) in
      contains_from_has e (rest_of edges old) (place_left edges old.marks.items at.0 e at.1 (t.fall at.0 at.2))

-- an edge that is left is taken out
module _ (edges : List PlacedEdge) (old new : Rest) (k : ℕ) (e : PlacedEdge) (at : slice_get edges k ≡ Some e) (left : slice_get old.marks.items k ≡ Some true)
    (counted : IsCounted edges old) (marks : new.marks.items ≡ set old.marks.items k false)
    (counts : (p : Place) → count_at new.tally p + bit (waits_in p e) ≡ count_at old.tally p) where
  pub still_counted : IsCounted edges new
  still_counted = record {
    as_long = ap length marks ∙ length-set old.marks.items k false ∙ counted.as_long;
    counts = λ p.
        let a = counts p in let b = counted.counts p in let c = count_by-set (waits_in p) edges old.marks.items k e at left in
        let d : count_by (waits_in p) (left_of edges new.marks.items) ≡ count_by (waits_in p) (left_of edges (set old.marks.items k false)) = ap (λ l. count_by (waits_in p) (left_of edges l)) marks in
        omega arith;
  }

  pub one_out : ((p : Place) → Contains old.freed.items p → Contains new.freed.items p) → length new.freed.items ≤ length old.freed.items + 3
      → (count_at new.tally (Anywhere e.edge.waiter) ≡ 0 → Contains new.freed.items (Anywhere e.edge.waiter))
      → (count_at new.tally (At e.node e.edge.waiter) ≡ 0 → Contains new.freed.items (At e.node e.edge.waiter))
      → (count_at new.tally (Awaited e.edge.holder) ≡ 0 → Contains new.freed.items (Awaited e.edge.holder))
      → AreTakenOut edges (k ∷ []) old new
  one_out still short anywhere there awaited = record {
    fall = λ j m. set_falls old.marks.items k j (subst (λ l. slice_get l j ≡ Some true) marks m);
    out = λ j c. ⊎_elim
        (λ (s : k ≡ j). λ m. set_out old.marks.items k (subst (λ i. slice_get (set old.marks.items k false) i ≡ Some true) (sym s) (subst (λ l. slice_get l j ≡ Some true) marks m)))
        (λ n. absurd n) (has_from_contains j (k ∷ []) c);
    kept = λ x c. ⊎_elim
        (λ (h : Has x (left_of edges (set old.marks.items k false))). inl (contains_from_has x (rest_of edges new) (subst (λ l. Has x (left_of edges l)) (sym marks) h)))
        (λ (s : e ≡ x). inr (k, contains_from_has k (k ∷ []) (inl refl), at ∙ ap Some s))
        (left_kept edges old.marks.items k e x at (has_from_contains x (rest_of edges old) c));
    freed = λ p z. empty p z (waits_in p e) refl;
    still_freed = still;
    work =
        let n = left_length-set edges old.marks.items k e at left in
        let d : length (left_of edges new.marks.items) ≡ length (left_of edges (set old.marks.items k false)) = ap (λ l. length (left_of edges l)) marks in
        omega arith;
  }
    where
      empty : (p : Place) → count_at new.tally p ≡ 0 → (b : Bool) → waits_in p e ≡ b → (count_at old.tally p ≡ 0) ⊎ Contains new.freed.items p
      empty p z true w = inr (⊎_elim
          (λ (s : p ≡ Anywhere e.edge.waiter). subst (Contains new.freed.items) (sym s) (anywhere (sym (ap (count_at new.tally) s) ∙ z)))
          (⊎_elim
          (λ (s : p ≡ At e.node e.edge.waiter). subst (Contains new.freed.items) (sym s) (there (sym (ap (count_at new.tally) s) ∙ z)))
          (λ (s : p ≡ Awaited e.edge.holder). subst (Contains new.freed.items) (sym s) (awaited (sym (ap (count_at new.tally) s) ∙ z))))
          (counts_at p e w))
      empty p z false w = let a = counts p in let b : bit (waits_in p e) ≡ 0 = ap bit w in inl (omega arith)

-- an edge that is left is counted
pub was_counted : (edges : List PlacedEdge) (rest : Rest) (k : ℕ) (e : PlacedEdge) → IsCounted edges rest → slice_get edges k ≡ Some e → slice_get rest.marks.items k ≡ Some true
    → (p : Place) → waits_in p e ≡ true → 0 < count_at rest.tally p
was_counted edges rest k e counted at left p w = go (count_at rest.tally p) refl
  where
    go : (n : ℕ) → count_at rest.tally p ≡ n → 0 < n
    go zero z = absurd (none_counted (waits_in p) (rest_of edges rest) e (sym (counted.counts p) ∙ z) (place_left edges rest.marks.items k e at left) w)
    go (suc n) z = omega arith

pub begins : (edges : List PlacedEdge) (rest : Rest) → rest.marks.items ≡ replicate (length edges) true → ((p : Place) → count_at rest.tally p ≡ count_by (waits_in p) edges)
    → IsCounted edges rest × (rest_of edges rest ≡ edges)
begins edges rest marks counts =
    let all : rest_of edges rest ≡ edges = ap (left_of edges) marks ∙ all_left edges in
    (record { as_long = ap length marks ∙ length-replicate_true (length edges); counts = λ p. counts p ∙ ap (count_by (waits_in p)) (sym all) }, all)

pub counted_same : (edges : List PlacedEdge) (old new : Rest) → new.marks ≡ old.marks → new.tally ≡ old.tally → IsCounted edges old → IsCounted edges new
counted_same edges old new marks tally counted = record {
  as_long = ap (λ m. length m.items) marks ∙ counted.as_long;
  counts = λ p. ap (λ t. count_at t p) tally ∙ counted.counts p ∙ ap (λ m. count_by (waits_in p) (left_of edges m.items)) (sym marks);
}
