-- What is stuck: the largest part in which everybody whom an edge needs waits.
use Rattle.std.proofs.Common.{◌≡◌, ◌<◌, ℕ, List, [], ◌∷◌, Bool, true, false, cond, ◌⊎◌, inl, inr, filter, map, sym, refl, ap, ◌∙◌, arith}
use Rattle.std.proofs.lemmas.Bool.Decides.{nat_tests}
use Rattle.std.proofs.lemmas.Bool.{ltb-true}
use Rattle.gx_waits.specs.declared.placed_edge.PlacedEdge.{PlacedEdge}
use Rattle.gx_waits.proofs.Members.{Has}
use Rattle.gx_waits.proofs.Determined.{same_gxid}
use Rattle.gx_detect.specs.declared.place.Place.{Place}
use Rattle.gx_detect.specs.Place.{waits_in, need_of}
use Rattle.gx_detect.specs.Reduce.{is_left}

-- members of a filtered list
module _ {A : Type 0} (p : A → Bool) where
  pub has_filter : (xs : List A) (x : A) → Has x xs → p x ≡ true → Has x (filter p xs)
  has_filter [] x h t = h
  has_filter (y ∷ ys) x h t = go (p y) refl h (has_filter ys x)
    where
      go : (b : Bool) → p y ≡ b → (y ≡ x) ⊎ Has x ys → (Has x ys → p x ≡ true → Has x (filter p ys)) → Has x (cond b (y ∷ filter p ys) (filter p ys))
      go true e (inl s) f = inl s
      go true e (inr m) f = inr (f m t)
      go false e (inl s) f = let no : true ≡ false = sym t ∙ ap p (sym s) ∙ e in absurd (apart_bool no)
        where
          apart_bool : true ≡ false → ⊥
          apart_bool q = cc
      go false e (inr m) f = f m t

  pub filter_has : (xs : List A) (x : A) → Has x (filter p xs) → Has x xs × (p x ≡ true)
  filter_has [] x h = absurd h
  filter_has (y ∷ ys) x h = go (p y) refl h (filter_has ys x)
    where
      go : (b : Bool) → p y ≡ b → Has x (cond b (y ∷ filter p ys) (filter p ys)) → (Has x (filter p ys) → Has x ys × (p x ≡ true)) → Has x (y ∷ ys) × (p x ≡ true)
      go true e (inl s) f = (inl s, ap p (sym s) ∙ e)
      go true e (inr m) f = let r = f m in (inr r.0, r.1)
      go false e m f = let r = f m in (inr r.0, r.1)

module _ {A B : Type 0} (f : A → B) where
  pub map_has : (xs : List A) (y : B) → Has y (map f xs) → (x : A) × Has x xs × (f x ≡ y)
  map_has [] y h = absurd h
  map_has (x ∷ xs) y (inl e) = (x, inl refl, e)
  map_has (x ∷ xs) y (inr h) = let r = map_has xs y h in (r.0, inr r.1, r.2)

  pub has_map : (xs : List A) (x : A) → Has x xs → Has (f x) (map f xs)
  has_map [] x h = h
  has_map (y ∷ ys) x (inl e) = inl (ap f e)
  has_map (y ∷ ys) x (inr h) = inr (has_map ys x h)

pub left_test : (count : Place → ℕ) (e : PlacedEdge) → 0 < count (need_of e) → is_left count e ≡ true
unfolding is_left
left_test count e l = grind (arith, nat_tests)

pub test_left : (count : Place → ℕ) (e : PlacedEdge) → is_left count e ≡ true → 0 < count (need_of e)
unfolding is_left
test_left count e t = ltb-true 0 (count (need_of e)) t

-- who waits where an edge needs it
pub holder_waits : (e f : PlacedEdge) → waits_in (need_of e) f ≡ true → f.edge.waiter ≡ e.edge.holder
holder_waits e f w = same_gxid f.edge.waiter e.edge.holder (grind (arith, nat_tests))

pub dotted_holder_waits : (e f : PlacedEdge) → waits_in (need_of e) f ≡ true → e.edge.dotted ≡ true → f.node ≡ e.node
dotted_holder_waits e f w d = λ i. record { 0 = (number i) }
  where
    number : f.node.0 ≡ e.node.0
    number = grind (arith, nat_tests)
