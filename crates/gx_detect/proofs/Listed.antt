-- Which edges need a place.
use Rattle.std.proofs.Common.{◌≡◌, ◌≢◌, ◌<◌, ◌+◌, ℕ, List, [], ◌∷◌, ◌++◌, ◌⊎◌, inl, inr, ⊎_elim, slice_get, Some, sym, ap, subst, ◌∙◌, arith}
use Rattle.std.proofs.lemmas.Bool.{cases_eq}
use Rattle.std.proofs.lemmas.List.Elements.{Contains-append_left, Contains-push, Contains-push_cases}
use Rattle.std.specs.List.{Contains}
use Rattle.gx_ids.specs.declared.ids.Gxid.{Gxid}
use Rattle.gx_waits.specs.declared.placed_edge.PlacedEdge.{PlacedEdge}
use Rattle.gx_waits.proofs.Members.{has_from_contains}
use Rattle.gx_waits.proofs.Determined.{same_gxid}
use Rattle.gx_detect.specs.declared.place.Place.{Place}
use Rattle.gx_detect.specs.declared.place.Place.TheVariants.{Anywhere, At, Awaited}
use Rattle.gx_detect.specs.declared.place.Aim.TheVariants.{Stuck, Core}
use Rattle.gx_detect.specs.declared.wants.Wants.{Wants}
use Rattle.gx_detect.specs.Place.{Needs, need_of}
use Rattle.gx_detect.specs.Wants.{AreListed, IsListed, needing}
use Rattle.gx_detect.proofs.Removing.{same_node}

gxid_cases : (v w : Gxid) → (v ≡ w) ⊎ (v ≢ w)
gxid_cases v w = ⊎_elim (λ (e : v.0 ≡ w.0). inl (same_gxid v w e)) (λ (n : v.0 ≢ w.0). inr (λ s. n (ap (λ g. g.0) s))) (cases_eq v.0 w.0)

pub place_cases : (p q : Place) → (p ≡ q) ⊎ (p ≢ q)
place_cases (Anywhere v) (Anywhere w) = ⊎_elim (λ (e : v ≡ w). inl (ap Anywhere e)) (λ (n : v ≢ w). inr (λ s. n (cc))) (gxid_cases v w)
place_cases (Anywhere v) (At n w) = inr (λ s. cc)
place_cases (Anywhere v) (Awaited w) = inr (λ s. cc)
place_cases (At m v) (Anywhere w) = inr (λ s. cc)
place_cases (At m v) (At n w) = ⊎_elim
    (λ (e : m.0 ≡ n.0). ⊎_elim (λ (f : v ≡ w). inl (ap (λ x. At x v) (same_node m n e) ∙ ap (At n) f)) (λ (f : v ≢ w). inr (λ s. f (cc))) (gxid_cases v w))
    (λ (e : m.0 ≢ n.0). inr (λ s. let same : m ≡ n = cc in e (ap (λ x. x.0) same)))
    (cases_eq m.0 n.0)
place_cases (At m v) (Awaited w) = inr (λ s. cc)
place_cases (Awaited v) (Anywhere w) = inr (λ s. cc)
place_cases (Awaited v) (At n w) = inr (λ s. cc)
place_cases (Awaited v) (Awaited w) = ⊎_elim (λ (e : v ≡ w). inl (ap Awaited e)) (λ (n : v ≢ w). inr (λ s. n (cc))) (gxid_cases v w)

-- an edge is noted at one place
module _ (place : Place) (k : ℕ) (old new : Wants) (there : needing new place ≡ needing old place ++ k ∷ []) (elsewhere : (p : Place) → p ≢ place → needing new p ≡ needing old p) where
  noted_there : Contains (needing new place) k
  noted_there = subst (λ l. Contains l k) (sym there) (Contains-push (needing old place) k)

  noted_still : (p : Place) (j : ℕ) → Contains (needing old p) j → Contains (needing new p) j
  noted_still p j c = ⊎_elim
      (λ (s : p ≡ place). subst (λ q. Contains (needing new q) j) (sym s) (subst (λ l. Contains l j) (sym there)
      (Contains-append_left (needing old place) (k ∷ []) j (subst (λ q. Contains (needing old q) j) s c))))
      (λ (n : p ≢ place). subst (λ l. Contains l j) (sym (elsewhere p n)) c)
      (place_cases p place)

  noted_others : (p : Place) (j : ℕ) → Contains (needing new p) j → Contains (needing old p) j ⊎ ((j ≡ k) × (place ≡ p))
  noted_others p j c = ⊎_elim
      (λ (s : p ≡ place). ⊎_elim
      (λ (o : Contains (needing old place) j). inl (subst (λ q. Contains (needing old q) j) (sym s) o))
      (λ (e : k ≡ j). inr (sym e, sym s))
      (Contains-push_cases (needing old place) k j (subst (λ l. Contains l j) there (subst (λ q. Contains (needing new q) j) s c))))
      (λ (n : p ≢ place). inl (subst (λ l. Contains l j) (elsewhere p n) c))
      (place_cases p place)

pub listed_stuck : (e : PlacedEdge) (k : ℕ) (old new : Wants) → old.aim ≡ Stuck → new.aim ≡ old.aim → needing new (need_of e) ≡ needing old (need_of e) ++ k ∷ []
    → ((p : Place) → p ≢ need_of e → needing new p ≡ needing old p) → IsListed e k old new
listed_stuck e k old new stuck aim there elsewhere = record {
  aim = aim;
  there = λ p n. subst (λ q. Contains (needing new q) k) (subst (λ a. Needs a e p) stuck n) (noted_there (need_of e) k old new there elsewhere);
  still = noted_still (need_of e) k old new there elsewhere;
  no_others = λ p j c. ⊎_elim
      (λ (o : Contains (needing old p) j). inl o)
      (λ (n : (j ≡ k) × (need_of e ≡ p)). inr (n.0, subst (λ a. Needs a e p) (sym stuck) n.1))
      (noted_others (need_of e) k old new there elsewhere p j c);
}

pub listed_core : (e : PlacedEdge) (k : ℕ) (old mid new : Wants) → old.aim ≡ Core → new.aim ≡ old.aim
    → needing mid (need_of e) ≡ needing old (need_of e) ++ k ∷ [] → ((p : Place) → p ≢ need_of e → needing mid p ≡ needing old p)
    → needing new (Awaited e.edge.waiter) ≡ needing mid (Awaited e.edge.waiter) ++ k ∷ [] → ((p : Place) → p ≢ Awaited e.edge.waiter → needing new p ≡ needing mid p)
    → IsListed e k old new
listed_core e k old mid new core aim there elsewhere awaited others = record {
  aim = aim;
  there = λ p n. ⊎_elim
      (λ (s : need_of e ≡ p). subst (λ q. Contains (needing new q) k) s
      (noted_still (Awaited e.edge.waiter) k mid new awaited others (need_of e) k (noted_there (need_of e) k old mid there elsewhere)))
      (λ (s : Awaited e.edge.waiter ≡ p). subst (λ q. Contains (needing new q) k) s (noted_there (Awaited e.edge.waiter) k mid new awaited others))
      (subst (λ a. Needs a e p) core n);
  still = λ p j c. noted_still (Awaited e.edge.waiter) k mid new awaited others p j (noted_still (need_of e) k old mid there elsewhere p j c);
  no_others = λ p j c. ⊎_elim
      (λ (m : Contains (needing mid p) j). ⊎_elim
      (λ (o : Contains (needing old p) j). inl o)
      (λ (n : (j ≡ k) × (need_of e ≡ p)). inr (n.0, subst (λ a. Needs a e p) (sym core) (inl n.1)))
      (noted_others (need_of e) k old mid there elsewhere p j m))
      (λ (n : (j ≡ k) × (Awaited e.edge.waiter ≡ p)). inr (n.0, subst (λ a. Needs a e p) (sym core) (inr n.1)))
      (noted_others (Awaited e.edge.waiter) k mid new awaited others p j c);
}

pub none_listed : (edges : List PlacedEdge) (wants : Wants) → ((p : Place) → needing wants p ≡ []) → AreListed edges 0 wants
none_listed edges wants none = record {
  all_of_them = λ k below e at p n. absurd (never k below);
  no_others = λ p k c. absurd (has_from_contains k [] (subst (λ l. Contains l k) (none p) c));
}
  where
    never : (k : ℕ) → k < 0 → ⊥
    never k below = omega arith

pub one_listed : (edges : List PlacedEdge) (k : ℕ) (e : PlacedEdge) (old new : Wants) → AreListed edges k old → slice_get edges k ≡ Some e → IsListed e k old new
    → AreListed edges (k + 1) new
one_listed edges k e old new listed at one = record {
  all_of_them = λ j below f g p n.
      let m = subst (λ a. Needs a f p) one.aim n in ⊎_elim
      (λ (s : j ≡ k).
      let same : slice_get edges k ≡ Some f = subst (λ i. slice_get edges i ≡ Some f) s g in
      let is : f ≡ e = edge_is f same in
      subst (λ i. Contains (needing new p) i) (sym s) (one.there p (subst (λ x. Needs old.aim x p) is m)))
      (λ (d : j ≢ k). let less : j < k = below_other j d below in one.still p j (listed.all_of_them j less f g p m))
      (cases_eq j k);
  no_others = λ p j c. ⊎_elim
      (λ (o : Contains (needing old p) j). let r = listed.no_others p j o in (r.0, r.1, subst (λ a. Needs a r.0 p) (sym one.aim) r.2))
      (λ (n : (j ≡ k) × Needs old.aim e p). (e, subst (λ i. slice_get edges i ≡ Some e) (sym n.0) at, subst (λ a. Needs a e p) (sym one.aim) n.1))
      (one.no_others p j c);
}
  where
    edge_is : (f : PlacedEdge) → slice_get edges k ≡ Some f → f ≡ e
    edge_is f same = cc

    below_other : (j : ℕ) → j ≢ k → j < k + 1 → j < k
    below_other j d below = ⊎_elim (λ (s : j ≡ k). absurd (d s)) (λ (n : j ≢ k). apart j n below) (cases_eq j k)
      where
        apart : (j : ℕ) → j ≢ k → j < k + 1 → j < k
        apart j n below = grind (arith, n)
