-- What is written through a borrow of a shelf, or put under a key.
use Rattle.std.proofs.Common.{◌≡◌, ◌≢◌, ◌⊎◌, inl, inr, ⊎_elim, ℕ, ◌∷◌, List, [], ◌++◌, eqb, refl, sym, ap, subst, ◌∙◌, Bool, true, false, cond, arith, suc, zero, slice_index_or, slice_set, get_or, position, length, ◌&&◌}
use Rattle.std.proofs.lemmas.Bool.Decides.{nat_tests}
use Rattle.std.specs.HashMap.{get}
use Rattle.std.specs.Prelude.{Option, Some, None, OnSome, OnOk, OnErr, Result, Ok, Err, unwrap_or}
use Rattle.gx_ids.specs.declared.ids.Gxid.{Gxid}
use Rattle.gx_ids.specs.declared.ids.Table.{Table}
use Rattle.gx_ids.specs.declared.rid.Rid.{Rid}
use Rattle.gx_locks.specs.contracts.key.KeyPartialEq.TheImpl as block
use Rattle.gx_locks.specs.declared.hold.Hold.{Hold}
use Rattle.gx_locks.specs.declared.index.Index.{Index}
use Rattle.gx_locks.specs.declared.owner.Owner.{Owner}
use Rattle.gx_locks.specs.declared.key.Key.{Key}
use Rattle.gx_locks.specs.declared.key.Key.TheVariants.{On, Of}
use Rattle.gx_locks.specs.Index.{IsLeftElse, IsTidy, IsTidyBut, is_idle_there, shelf_at}
use Rattle.gx_locks.specs.Owners.{end_of, holds_of, is_idle, is_owner, owner_in}
use Rattle.gx_locks.specs.Rack.{Rack, no_shelf}
use Rattle.gx_locks.specs.Shelves.{IsWritten}
use Rattle.gx_waits.specs.declared.object.Object.TheVariants.{Relation, Tuple, Transaction}
use Rattle.gx_locks.proofs.Owned.{found, found-past, found-set, its}
use Rattle.gx_locks.proofs.Decided.{key_decides, key_itself, other_key}
use Rattle.gx_locks.proofs.Tidy.{but_then, others_left, owners_left, tidy_there}

pub ok_then : {A E P Q : Type 0} (r : Result A E) → (P → Q) → OnOk r P → OnOk r Q
ok_then (Ok a) f p = f p
ok_then (Err e) f p = tt

pub err_then : {A E P Q : Type 0} (r : Result A E) → (P → Q) → OnErr r P → OnErr r Q
err_then (Ok a) f p = tt
err_then (Err e) f p = f p

pub some_then : {A P : Type 0} (o : Option A) (x : A) → o ≡ Some x → OnSome o P → P
some_then (Some y) x is p = p
some_then None x is p = absurd (cc)

-- what the write keeps at its key it keeps everywhere
pub kept : {A : Type 0} (f : Rack → A) (key : Key) (old new : Index) (rack : Rack) → IsWritten key old rack new → f rack ≡ f (shelf_at old key) → (k : Key) → f (shelf_at new k) ≡ f (shelf_at old k)
kept f key old new rack written same k =
    ⊎_elim
    (λ (e : k ≡ key). subst (λ l. f (shelf_at new l) ≡ f (shelf_at old l)) (sym e) (ap f written.there ∙ same))
    (λ (other : k ≢ key). ap f (written.elsewhere k other))
    (key_decides k key)

-- an empty shelf more is none
pub pushed_empty : (racks : List Rack) (n : ℕ) → slice_index_or (racks ++ no_shelf ∷ []) n no_shelf ≡ slice_index_or racks n no_shelf
pushed_empty [] zero = refl
pushed_empty [] (suc n) = refl
pushed_empty (rack ∷ racks) zero = refl
pushed_empty (rack ∷ racks) (suc n) = pushed_empty racks n

-- a table's shelf
table_named : (t u : Table) → u.0 ≡ t.0 → u ≡ t
table_named t u e = grind (arith, nat_tests)

pub tables_else : (t : Table) (old new : Index) → new.owners ≡ old.owners → new.others ≡ old.others → ((n : ℕ) → n ≢ t.0 → slice_index_or new.tables.items n no_shelf ≡ slice_index_or old.tables.items n no_shelf) → (k : Key) → k ≢ On (Relation t) → shelf_at new k ≡ shelf_at old k
tables_else t old new owners others same (On (Relation u)) other = same u.0 (λ e. other (ap (λ v. On (Relation v)) (table_named t u e)))
tables_else t old new owners others same (On (Tuple r)) other = ap (λ m. unwrap_or (get block.ghosts.eq m (On (Tuple r))) no_shelf) others
tables_else t old new owners others same (On (Transaction g)) other = ap (λ os. end_of (owner_in os.items g)) owners
tables_else t old new owners others same (Of g) other = ap (λ os. holds_of (owner_in os.items g)) owners

-- what holds of the other shelves and of those on tables and in records holds of all
pub others_else : (key : Key) (old new : Index) → new.tables ≡ old.tables → new.owners ≡ old.owners → ((k : Key) → k ≢ key → get block.ghosts.eq new.others k ≡ get block.ghosts.eq old.others k) → (k : Key) → k ≢ key → shelf_at new k ≡ shelf_at old k
others_else key old new tables owners same (On (Relation u)) other = ap (λ ts. slice_index_or ts.items u.0 no_shelf) tables
others_else key old new tables owners same (On (Tuple r)) other = ap (λ o. unwrap_or o no_shelf) (same (On (Tuple r)) other)
others_else key old new tables owners same (On (Transaction g)) other = ap (λ os. end_of (owner_in os.items g)) owners
others_else key old new tables owners same (Of g) other = ap (λ os. holds_of (owner_in os.items g)) owners

-- a shelf that goes was empty
module _ {A : Type 0} (f : Rack → A) (old new : Index) (tables : new.tables ≡ old.tables) (owners : new.owners ≡ old.owners) where
  dropped_at : (key : Key) → get block.ghosts.eq new.others key ≡ None → f (shelf_at old key) ≡ f no_shelf → f (shelf_at new key) ≡ f (shelf_at old key)
  dropped_at (On (Relation u)) gone idle = ap (λ ts. f (slice_index_or ts.items u.0 no_shelf)) tables
  dropped_at (On (Tuple r)) gone idle = ap (λ o. f (unwrap_or o no_shelf)) gone ∙ sym idle
  dropped_at (On (Transaction g)) gone idle = ap (λ os. f (end_of (owner_in os.items g))) owners
  dropped_at (Of g) gone idle = ap (λ os. f (holds_of (owner_in os.items g))) owners

  pub dropped : (key : Key) → ((k : Key) → get block.ghosts.eq new.others k ≡ cond (block.ghosts.eq key k) None (get block.ghosts.eq old.others k)) → f (shelf_at old key) ≡ f no_shelf → (k : Key) → f (shelf_at new k) ≡ f (shelf_at old k)
  dropped key updates idle k =
      ⊎_elim
      (λ (e : k ≡ key). subst (λ l. f (shelf_at new l) ≡ f (shelf_at old l)) (sym e) (dropped_at key (updates key ∙ ap (λ b. cond b None (get block.ghosts.eq old.others key)) (key_itself key)) idle))
      (λ (other : k ≢ key). ap f (others_else key old new tables owners (λ l apart. updates l ∙ ap (λ b. cond b None (get block.ghosts.eq old.others l)) (other_key key l apart)) k other))
      (key_decides k key)

-- a row's shelf goes
pub dropped_tidy : (rid : Rid) (old new : Index) → new.owners ≡ old.owners → ((k : Key) → get block.ghosts.eq new.others k ≡ cond (block.ghosts.eq (On (Tuple rid)) k) None (get block.ghosts.eq old.others k)) → IsTidyBut (On (Tuple rid)) old → IsTidy new
dropped_tidy rid old new owners updates but =
    let key : Key = On (Tuple rid) in
    tidy_there key new
    (but_then key old new (others_left key old new owners (λ l apart. updates l ∙ ap (λ b. cond b None (get block.ghosts.eq old.others l)) (other_key key l apart))) but)
    (ap is_idle_there (updates key ∙ ap (λ b. cond b None (get block.ghosts.eq old.others key)) (key_itself key)))

-- an empty shelf is put where there was none
module _ (old new : Index) (tables : new.tables ≡ old.tables) (owners : new.owners ≡ old.owners) where
  made_at : (key : Key) → get block.ghosts.eq new.others key ≡ Some no_shelf → get block.ghosts.eq old.others key ≡ None → shelf_at new key ≡ shelf_at old key
  made_at (On (Relation u)) made none = ap (λ ts. slice_index_or ts.items u.0 no_shelf) tables
  made_at (On (Tuple r)) made none = ap (λ o. unwrap_or o no_shelf) made ∙ sym (ap (λ o. unwrap_or o no_shelf) none)
  made_at (On (Transaction g)) made none = ap (λ os. end_of (owner_in os.items g)) owners
  made_at (Of g) made none = ap (λ os. holds_of (owner_in os.items g)) owners

  pub other_made : (key : Key) (rack : Rack) → rack ≡ no_shelf → ((k : Key) → get block.ghosts.eq new.others k ≡ cond (block.ghosts.eq key k) (Some rack) (get block.ghosts.eq old.others k)) → get block.ghosts.eq old.others key ≡ None → (k : Key) → shelf_at new k ≡ shelf_at old k
  other_made key rack empty updates none k =
      ⊎_elim
      (λ (e : k ≡ key). subst (λ l. shelf_at new l ≡ shelf_at old l) (sym e) (made_at key (updates key ∙ ap (λ b. cond b (Some rack) (get block.ghosts.eq old.others key)) (key_itself key) ∙ ap (λ r. Some r) empty) none))
      (λ (other : k ≢ key). others_else key old new tables owners (λ l apart. updates l ∙ ap (λ b. cond b (Some rack) (get block.ghosts.eq old.others l)) (other_key key l apart)) k other)
      (key_decides k key)

pub other_made_left : (key : Key) (rack : Rack) (old new : Index) → new.owners ≡ old.owners → ((k : Key) → get block.ghosts.eq new.others k ≡ cond (block.ghosts.eq key k) (Some rack) (get block.ghosts.eq old.others k)) → IsLeftElse key old new
other_made_left key rack old new owners updates =
    others_left key old new owners (λ l apart. updates l ∙ ap (λ b. cond b (Some rack) (get block.ghosts.eq old.others l)) (other_key key l apart))

-- one transaction's record alone is changed, added or dropped
gxid_decides : (g h : Gxid) → (g ≡ h) ⊎ (g ≢ h)
gxid_decides g h = by_test (eqb g.0 h.0) refl
  where
    same : (a b : Gxid) → eqb a.0 b.0 ≡ true → a ≡ b
    same a b e = grind (arith, nat_tests)

    apart : (a b : Gxid) → eqb a.0 b.0 ≡ false → a ≢ b
    apart a b e = λ is. grind (arith, nat_tests)

    by_test : (b : Bool) → eqb g.0 h.0 ≡ b → (g ≡ h) ⊎ (g ≢ h)
    by_test true e = inl (same g h e)
    by_test false e = inr (apart g h e)

module _ (g : Gxid) (old new : Index) (tables : new.tables ≡ old.tables) (others : new.others ≡ old.others) (apart : (h : Gxid) → h ≢ g → owner_in new.owners.items h ≡ owner_in old.owners.items h) where
  end_at : end_of (owner_in new.owners.items g) ≡ end_of (owner_in old.owners.items g) → (h : Gxid) → end_of (owner_in new.owners.items h) ≡ end_of (owner_in old.owners.items h)
  end_at same h =
      ⊎_elim
      (λ (e : h ≡ g). subst (λ i. end_of (owner_in new.owners.items i) ≡ end_of (owner_in old.owners.items i)) (sym e) same)
      (λ (other : h ≢ g). ap end_of (apart h other))
      (gxid_decides h g)

  holds_at_each : holds_of (owner_in new.owners.items g) ≡ holds_of (owner_in old.owners.items g) → (h : Gxid) → holds_of (owner_in new.owners.items h) ≡ holds_of (owner_in old.owners.items h)
  holds_at_each same h =
      ⊎_elim
      (λ (e : h ≡ g). subst (λ i. holds_of (owner_in new.owners.items i) ≡ holds_of (owner_in old.owners.items i)) (sym e) same)
      (λ (other : h ≢ g). ap holds_of (apart h other))
      (gxid_decides h g)

  -- in what it holds
  pub but_holds : end_of (owner_in new.owners.items g) ≡ end_of (owner_in old.owners.items g) → (k : Key) → k ≢ Of g → shelf_at new k ≡ shelf_at old k
  but_holds same (On (Relation u)) other = ap (λ ts. slice_index_or ts.items u.0 no_shelf) tables
  but_holds same (On (Tuple r)) other = ap (λ m. unwrap_or (get block.ghosts.eq m (On (Tuple r))) no_shelf) others
  but_holds same (On (Transaction h)) other = end_at same h
  but_holds same (Of h) other = ap holds_of (apart h (λ e. other (ap Of e)))

  -- in who holds its end
  pub but_end : holds_of (owner_in new.owners.items g) ≡ holds_of (owner_in old.owners.items g) → (k : Key) → k ≢ On (Transaction g) → shelf_at new k ≡ shelf_at old k
  but_end same (On (Relation u)) other = ap (λ ts. slice_index_or ts.items u.0 no_shelf) tables
  but_end same (On (Tuple r)) other = ap (λ m. unwrap_or (get block.ghosts.eq m (On (Tuple r))) no_shelf) others
  but_end same (On (Transaction h)) other = ap end_of (apart h (λ e. other (ap (λ i. On (Transaction i)) e)))
  but_end same (Of h) other = holds_at_each same h

  -- in nothing
  pub but_none : end_of (owner_in new.owners.items g) ≡ end_of (owner_in old.owners.items g) → holds_of (owner_in new.owners.items g) ≡ holds_of (owner_in old.owners.items g) → (k : Key) → shelf_at new k ≡ shelf_at old k
  but_none ends holds (On (Relation u)) = ap (λ ts. slice_index_or ts.items u.0 no_shelf) tables
  but_none ends holds (On (Tuple r)) = ap (λ m. unwrap_or (get block.ghosts.eq m (On (Tuple r))) no_shelf) others
  but_none ends holds (On (Transaction h)) = end_at ends h
  but_none ends holds (Of h) = holds_at_each holds h

-- a shelf of a record that is found is written
module _ (g : Gxid) (old new : Index) (i : ℕ) (d : Owner) (rack : Rack) (at : position (is_owner g) old.owners.items ≡ Some i) (tables : new.tables ≡ old.tables) (others : new.others ≡ old.others) where
  abbrev held : Owner
  held = get_or old.owners.items i d

  module _ (o : Owner) (is : is_owner g o ≡ true) (items : new.owners.items ≡ slice_set old.owners.items i o) where
    apart : (h : Gxid) → h ≢ g → owner_in new.owners.items h ≡ owner_in old.owners.items h
    apart h other = ap (λ os. owner_in os h) items ∙ found-past old.owners.items g i at d h o other is

    there : owner_in new.owners.items g ≡ Some o
    there = ap (λ os. owner_in os g) items ∙ found-set old.owners.items g i at d o is

  pub written_holds : new.owners.items ≡ slice_set old.owners.items i (record held { holds = rack }) → IsWritten (Of g) old rack new
  written_holds items =
      let o : Owner = record held { holds = rack } in
      let is : is_owner g o ≡ true = its old.owners.items g i at d in
      record {
        there = ap holds_of (there o is items);
        elsewhere = but_holds g old new tables others (apart o is items) (ap end_of (there o is items) ∙ sym (ap end_of (found old.owners.items g i at d)));
        left = owners_left g old new others (apart o is items);
      }

  pub written_end : new.owners.items ≡ slice_set old.owners.items i (record held { end = rack }) → IsWritten (On (Transaction g)) old rack new
  written_end items =
      let o : Owner = record held { end = rack } in
      let is : is_owner g o ≡ true = its old.owners.items g i at d in
      record {
        there = ap end_of (there o is items);
        elsewhere = but_end g old new tables others (apart o is items) (ap holds_of (there o is items) ∙ sym (ap holds_of (found old.owners.items g i at d)));
        left = owners_left g old new others (apart o is items);
      }

-- a record that a transaction takes is empty
pub owner_made : (g : Gxid) (old new : Index) (o : Owner) → new.tables ≡ old.tables → new.others ≡ old.others → ((h : Gxid) → h ≢ g → owner_in new.owners.items h ≡ owner_in old.owners.items h) → owner_in new.owners.items g ≡ Some o → o.holds ≡ no_shelf → o.end ≡ no_shelf → owner_in old.owners.items g ≡ None → (k : Key) → shelf_at new k ≡ shelf_at old k
owner_made g old new o tables others apart is holds ends none =
    but_none g old new tables others apart (ap end_of is ∙ ends ∙ sym (ap end_of none)) (ap holds_of is ∙ holds ∙ sym (ap holds_of none))

-- a record that goes was empty
pub owner_dropped : (g : Gxid) (old new : Index) → new.tables ≡ old.tables → new.others ≡ old.others → ((h : Gxid) → h ≢ g → owner_in new.owners.items h ≡ owner_in old.owners.items h) → owner_in new.owners.items g ≡ None → holds_of (owner_in old.owners.items g) ≡ no_shelf → end_of (owner_in old.owners.items g) ≡ no_shelf → (k : Key) → shelf_at new k ≡ shelf_at old k
owner_dropped g old new tables others apart gone holds ends = but_none g old new tables others apart (ap end_of gone ∙ sym ends) (ap holds_of gone ∙ sym holds)

pub idle_holds : (holds : List Hold) (places : ℕ) → (eqb (length holds) 0 && eqb places 0) ≡ true → holds ≡ []
idle_holds [] places idle = refl
idle_holds (h ∷ hs) places idle = absurd (grind (arith, nat_tests))

pub idle_places : (count places : ℕ) → (eqb count 0 && eqb places 0) ≡ true → places ≡ 0
idle_places count places idle = grind (arith, nat_tests)

abbrev rack_of : List Hold → ℕ → Rack
rack_of holds places = record { holds = holds; places = places }

pub idle_rack : (rack : Rack) → is_idle rack ≡ true → rack ≡ no_shelf
idle_rack rack idle =
    ap (λ hs. rack_of hs rack.places) (idle_holds rack.holds rack.places idle)
    ∙ ap (rack_of []) (idle_places (length rack.holds) rack.places idle)

pub both_idle : (a b : Bool) → (a && b) ≡ true → (a ≡ true) × (b ≡ true)
both_idle true b both = (refl, both)
both_idle false b both = absurd (cc)
