-- One journal of a list changes.
use Rattle.std.proofs.Common.{◌≡◌, ◌<◌, ◌≤◌, ◌⊎◌, ℕ, zero, suc, List, [], ◌∷◌, Option, Some, inl, inr, refl, sym, ap, ◌∙◌, subst, arith, length, get_or}
use Rattle.std.specs.Prelude.{map, slice_get, slice_set}
use Rattle.gx_lemmas.proofs.Options.{some-same}
use Rattle.gx_lemmas.proofs.Lists.{length-set}
use Rattle.gx_ids.specs.declared.ids.Node.{Node}
use Rattle.gx_msg.specs.declared.item.JournalItem.{JournalItem}
use Rattle.gx_outside.specs.Shelves.{Shelf}
use Rattle.gx_node.specs.Orders.{IsLaterBy}
use Rattle.gx_script.specs.declared.Script.{Script}
use Rattle.gx_store.specs.declared.event.Event.{Event}
use Rattle.gx_store.specs.declared.node.NodeEvent.{NodeEvent}
use Rattle.gx_store.specs.Refusals.{the_coordinator}
use Rattle.gx_rules.specs.Machine as machine
use Rattle.gx_world.specs.declared.network.Network.{Network}
use Rattle.gx_world.specs.Networks.{HasMoved, HasTurned}
use Rattle.gx_world.specs.Worlds.{AreLater, AreLaterBy}
use Rattle.gx_world.proofs.Segs.{get-set}

get-map : {A B : Type 0} (f : A → B) (xs : List A) (k : ℕ) (x : A) → slice_get xs k ≡ Some x → slice_get (map f xs) k ≡ Some (f x)
get-map f [] k x e = absurd (cc)
get-map f (y ∷ xs) zero x e = ap (λ z. Some (f z)) (same y x e)
  where
    same : {A : Type 0} (a b : A) → Some a ≡ Some b → a ≡ b
    same a b e = (cc)
get-map f (y ∷ xs) (suc k) x e = get-map f xs k x e

map-set : {A B : Type 0} (f : A → B) (xs : List A) (k : ℕ) (x : A) → map f (slice_set xs k x) ≡ slice_set (map f xs) k (f x)
map-set f [] k x = refl
map-set f (y ∷ xs) zero x = refl
map-set f (y ∷ xs) (suc k) x = ap (λ zs. f y ∷ zs) (map-set f xs k x)

pub read-at : {A : Type 0} (xs : List A) (k : ℕ) (d : A) → k < length xs → slice_get xs k ≡ Some (get_or xs k d)
read-at [] k d h = absurd (omega arith)
read-at (y ∷ xs) zero d h = refl
read-at (y ∷ xs) (suc k) d h = read-at xs k d (omega arith)

pub at-zero : (at : Node) → at.0 ≡ 0 → at ≡ the_coordinator
at-zero at e = ap (λ (k : ℕ). let n : Node = record { 0 = k } in n) e

module _ {A : Type 0} (f : A → Shelf) (js : List A) (script : Script) (w : machine.World) (event : Event) (at : Node) (here : NodeEvent) (new : Network) (d now : A) where
  pub moved-at : (k : ℕ) → at.0 ≡ k → k < length js → HasTurned script w event at here new (f (get_or js k d)) (f now) → HasMoved script w event at here new (map f js) (map f (slice_set js k now))
  moved-at k same inside h =
      record {
        fails = h.fails;
        is = h.is;
        was = f (get_or js k d);
        there = subst (λ i. slice_get (map f js) i ≡ Some (f (get_or js k d))) (sym same) (get-map f js k (get_or js k d) (read-at js k d inside));
        now = f now;
        journals = map-set f js k now ∙ ap (λ i. slice_set (map f js) i (f now)) (sym same);
        took = h.took;
      }

  pub moved-first : at.0 ≡ 0 → 0 < length js → HasTurned script w event the_coordinator here new (f (get_or js 0 d)) (f now) → HasMoved script w event at here new (map f js) (map f (slice_set js 0 now))
  moved-first same inside h =
      moved-at 0 same inside (subst (λ n. HasTurned script w event n here new (f (get_or js 0 d)) (f now)) (sym (at-zero at same)) h)

pub later-those : {node : Node} {it : Option JournalItem} {before after : List Shelf} → AreLaterBy node it before after → AreLater node before after
later-those h = record { count = h.count; own = λ b a was now. (h.own b a was now).later; others = h.others }

pub those-alike : {A : Type 0} (at : A → Node) (item : A → Option JournalItem) {x y : A} {before after : List Shelf} → x ≡ y → AreLaterBy (at x) (item x) before after → AreLaterBy (at y) (item y) before after
those-alike at item {before = before} {after = after} same later = subst (λ z. AreLaterBy (at z) (item z) before after) same later

module _ (node : Node) (it : Option JournalItem) where
  later-set : (shelves : List Shelf) (was now : Shelf) → slice_get shelves node.0 ≡ Some was → IsLaterBy was now it → AreLaterBy node it shelves (slice_set shelves node.0 now)
  later-set shelves was now there h =
      record { count = length-set shelves node.0 now; own = λ b a old new. at-place b a old (get-set shelves node.0 node.0 now a new); others = λ i b a apart old new. elsewhere i b a apart old (get-set shelves node.0 i now a new) }
    where
      at-place : (b a : Shelf) → slice_get shelves node.0 ≡ Some b → ((node.0 ≡ node.0) × (a ≡ now)) ⊎ ((node.0 ≡ node.0 → ⊥) × (slice_get shelves node.0 ≡ Some a)) → IsLaterBy b a it
      at-place b a old (inl e) = subst (λ (x : Shelf). IsLaterBy b x it) (sym e.1) (subst (λ (x : Shelf). IsLaterBy x now it) (some-same was b (sym there ∙ old)) h)
      at-place b a old (inr e) = absurd (e.0 refl)

      elsewhere : (i : ℕ) (b a : Shelf) → (i ≡ node.0 → ⊥) → slice_get shelves i ≡ Some b → ((i ≡ node.0) × (a ≡ now)) ⊎ ((i ≡ node.0 → ⊥) × (slice_get shelves i ≡ Some a)) → a ≡ b
      elsewhere i b a apart old (inl e) = absurd (apart e.0)
      elsewhere i b a apart old (inr e) = sym (some-same b a (sym old ∙ e.1))

  pub later-at : {A : Type 0} (f : A → Shelf) (js : List A) (d now : A) (k : ℕ) → node.0 ≡ k → k < length js → IsLaterBy (f (get_or js k d)) (f now) it → AreLaterBy node it (map f js) (map f (slice_set js k now))
  later-at f js d now k same inside h =
      subst (λ i. AreLaterBy node it (map f js) (map f (slice_set js i now))) same
      (subst (λ xs. AreLaterBy node it (map f js) xs) (sym (map-set f js node.0 now))
      (later-set (map f js) (f (get_or js k d)) (f now) (subst (λ i. slice_get (map f js) i ≡ Some (f (get_or js k d))) (sym same) (get-map f js k (get_or js k d) (read-at js k d inside))) h))
