-- What is left in the containers.
use Rattle.std.proofs.Common.{◌≡◌, ◌≢◌, ◌+◌, ◌++◌, ◌∷◌, [], ◌&&◌, List, ℕ, Bool, true, false, length, eqb, refl, sym, ap, ◌∙◌, arith, ⊎_elim}
use Rattle.std.proofs.lemmas.Bool.Decides.{nat_tests}
use Rattle.std.specs.HashMap.{get}
use Rattle.std.specs.Prelude.{Option, Some, None, unwrap_or}
use Rattle.gx_ids.specs.declared.ids.Gxid.{Gxid}
use Rattle.gx_ids.specs.declared.ids.Table.{Table}
use Rattle.gx_locks.specs.contracts.key.KeyPartialEq.TheImpl as block
use Rattle.gx_locks.specs.declared.hold.Hold.{Hold}
use Rattle.gx_locks.specs.declared.index.Index.{Index}
use Rattle.gx_locks.specs.declared.owner.Owner.{Owner}
use Rattle.gx_locks.specs.declared.key.Key.{Key}
use Rattle.gx_locks.specs.declared.key.Key.TheVariants.{On, Of}
use Rattle.gx_locks.specs.Index.{IsLeftElse, IsTidy, IsTidyBut, is_idle_there, is_left, keeper, shelf_at}
use Rattle.gx_locks.specs.Owners.{end_of, holds_of, is_idle, is_spent, owner_in}
use Rattle.gx_locks.specs.Rack.{Rack, no_shelf}
use Rattle.gx_waits.specs.declared.object.Object.TheVariants.{Relation, Tuple, Transaction}
use Rattle.gx_locks.proofs.Decided.{key_decides}

-- the records of other transactions are as they were
pub owners_left : (g : Gxid) (old new : Index) → new.others ≡ old.others → ((h : Gxid) → h ≢ g → owner_in new.owners.items h ≡ owner_in old.owners.items h) → IsLeftElse (Of g) old new
owners_left g old new others apart (On (Relation u)) other = refl
owners_left g old new others apart (On (Tuple r)) other = ap (λ m. is_idle_there (get block.ghosts.eq m (On (Tuple r)))) others
owners_left g old new others apart (On (Transaction h)) other = ap is_spent (apart h (λ e. other (ap Of e)))
owners_left g old new others apart (Of h) other = ap is_spent (apart h (λ e. other (ap Of e)))

-- the other shelves are as they were
pub others_left : (key : Key) (old new : Index) → new.owners ≡ old.owners → ((k : Key) → k ≢ key → get block.ghosts.eq new.others k ≡ get block.ghosts.eq old.others k) → IsLeftElse key old new
others_left key old new owners same (On (Relation u)) other = refl
others_left key old new owners same (On (Tuple r)) other = ap is_idle_there (same (On (Tuple r)) (λ e. other (ap keeper e)))
others_left key old new owners same (On (Transaction h)) other = ap (λ os. is_spent (owner_in os.items h)) owners
others_left key old new owners same (Of h) other = ap (λ os. is_spent (owner_in os.items h)) owners

-- what keeps the one thing as the other keeps the one for as much as the other
by_keeper : (index : Index) (k : Key) → is_left index k ≡ is_left index (keeper k)
by_keeper index (On (Relation u)) = refl
by_keeper index (On (Tuple r)) = refl
by_keeper index (On (Transaction g)) = refl
by_keeper index (Of g) = refl

module _ (key : Key) (index : Index) where
  -- where nothing is left under the key either, nothing is left
  pub tidy_there : IsTidyBut (keeper key) index → is_left index key ≡ false → IsTidy index
  unfolding IsTidy IsTidyBut
  tidy_there but there = λ k.
      ⊎_elim
      (λ (e : keeper k ≡ keeper key). by_keeper index k ∙ ap (is_left index) e ∙ sym (by_keeper index key) ∙ there)
      (λ (other : keeper k ≢ keeper key). but k other)
      (key_decides (keeper k) (keeper key))

-- a table's shelf stays, and is never left
pub tidy_table : (table : Table) (index : Index) → IsTidyBut (On (Relation table)) index → IsTidy index
tidy_table table index but = tidy_there (On (Relation table)) index but refl

both_left : (a b : Bool) → (a && b) ≡ true → a ≡ true
both_left true b e = refl
both_left false b e = absurd (cc)

both_right : (a b : Bool) → (a && b) ≡ true → b ≡ true
both_right true b e = e
both_right false b e = absurd (cc)

idle_shelf : (o : Option Rack) → is_idle_there o ≡ true → is_idle (unwrap_or o no_shelf) ≡ true
idle_shelf None e = absurd (cc)
idle_shelf (Some rack) e = e

idle_holds : (o : Option Owner) → is_spent o ≡ true → is_idle (holds_of o) ≡ true
idle_holds None e = absurd (cc)
idle_holds (Some owner) e = both_left (is_idle owner.holds) (is_idle owner.end) e

idle_end : (o : Option Owner) → is_spent o ≡ true → is_idle (end_of o) ≡ true
idle_end None e = absurd (cc)
idle_end (Some owner) e = both_right (is_idle owner.holds) (is_idle owner.end) e

left_is_idle : (index : Index) (key : Key) → is_left index key ≡ true → is_idle (shelf_at index key) ≡ true
left_is_idle index (On (Relation u)) e = absurd (cc)
left_is_idle index (On (Tuple r)) e = idle_shelf (get block.ghosts.eq index.others (On (Tuple r))) e
left_is_idle index (On (Transaction g)) e = idle_end (owner_in index.owners.items g) e
left_is_idle index (Of g) e = idle_holds (owner_in index.owners.items g) e

pub used_there : (index : Index) (key : Key) → is_idle (shelf_at index key) ≡ false → is_left index key ≡ false
used_there index key used = by_test (is_left index key) refl
  where
    apart : (b : Bool) → b ≡ true → b ≡ false → ⊥
    apart b is isnt = cc

    by_test : (b : Bool) → is_left index key ≡ b → b ≡ false
    by_test true e = absurd (apart (is_idle (shelf_at index key)) (left_is_idle index key e) used)
    by_test false e = refl

-- where something is held or may come under the key, nothing is left
pub tidy_used : (key : Key) (index : Index) → IsTidyBut (keeper key) index → is_idle (shelf_at index key) ≡ false → IsTidy index
tidy_used key index but used = tidy_there key index but (used_there index key used)

pub tidy_but : (key : Key) (old new : Index) → IsLeftElse key old new → IsTidy old → IsTidyBut (keeper key) new
unfolding IsTidy IsTidyBut
tidy_but key old new left tidy = λ k other. left k other ∙ tidy k

pub left_twice : (key : Key) (old mid new : Index) → IsLeftElse key mid new → IsLeftElse key old mid → IsLeftElse key old new
left_twice key old mid new after before = λ k other. after k other ∙ before k other

pub but_then : (key : Key) (old new : Index) → IsLeftElse key old new → IsTidyBut (keeper key) old → IsTidyBut (keeper key) new
unfolding IsTidyBut
but_then key old new left but = λ k other. left k other ∙ but k other

places_used : (count places n : ℕ) → places ≡ n + 1 → (eqb count 0 && eqb places 0) ≡ false
places_used count places n more = grind (arith, nat_tests)

pub used_by_place : (rack : Rack) (n : ℕ) → rack.places ≡ n + 1 → is_idle rack ≡ false
used_by_place rack n more = places_used (length rack.holds) rack.places n more

pushed_used : (hs : List Hold) (h : Hold) (places : ℕ) → (eqb (length (hs ++ h ∷ [])) 0 && eqb places 0) ≡ false
pushed_used [] h places = refl
pushed_used (x ∷ hs) h places = grind (arith, nat_tests)

pub used_by_hold : (rack : Rack) (hs : List Hold) (h : Hold) → rack.holds ≡ hs ++ h ∷ [] → is_idle rack ≡ false
used_by_hold rack hs h more = ap (λ (xs : List Hold). eqb (length xs) 0 && eqb rack.places 0) more ∙ pushed_used hs h rack.places

-- a transaction's record goes, is needed or isn't there
pub tidy_freed : (g : Gxid) (old new : Index) → new.others ≡ old.others → ((h : Gxid) → h ≢ g → owner_in new.owners.items h ≡ owner_in old.owners.items h) → owner_in new.owners.items g ≡ None → IsTidyBut (Of g) old → IsTidy new
tidy_freed g old new others apart gone but =
    tidy_there (Of g) new (but_then (Of g) old new (owners_left g old new others apart) but) (ap is_spent gone)

pub tidy_kept : (g : Gxid) (index : Index) (owner : Owner) → owner_in index.owners.items g ≡ Some owner → (is_idle owner.holds && is_idle owner.end) ≡ false → IsTidyBut (Of g) index → IsTidy index
tidy_kept g index owner is used but = tidy_there (Of g) index but (ap is_spent is ∙ used)

pub tidy_unknown : (g : Gxid) (index : Index) → owner_in index.owners.items g ≡ None → IsTidyBut (Of g) index → IsTidy index
tidy_unknown g index none but = tidy_there (Of g) index but (ap is_spent none)
