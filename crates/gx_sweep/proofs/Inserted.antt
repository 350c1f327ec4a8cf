-- A row more under a key.
use Rattle.std.proofs.Common.{◌≡◌, ◌≢◌, ⊎_elim, List, [], ◌∷◌, ◌||◌, Bool, true, false, ap, sym, refl, ◌∙◌, subst, arith}
use Rattle.std.proofs.lemmas.Bool.Decides.{nat_tests}
use Rattle.std.specs.Prelude.{Result, Ok, Err, OnOk, OnErr}
use Rattle.std.specs.List.{list_any}
use Rattle.std.specs.BTreeMap.{is_at}
use Rattle.std.specs.BTreeSet.{insert_key}
use Rattle.std.specs.List.Sorted.{IsStrictlySortedBy}
use Rattle.std.specs.Ordering.{is_eq, match_ordering}
use Rattle.std.specs.declared.cmp.Ordering.{Ordering}
use Rattle.std.specs.declared.cmp.Ordering.TheVariants.{Less, Equal, Greater}
use Rattle.gx_ids.specs.declared.memory.OutOfMemory.{OutOfMemory}
use Rattle.gx_ids.specs.declared.rid.Rid.{Rid}
use Rattle.gx_rows.specs.Rids.{rid_cmp}
use Rattle.gx_sweep.specs.Index.{has_under, rids_under}
use Rattle.gx_sweep.specs.declared.index.KeyIndex.{KeyIndex}
use Rattle.gx_sweep.specs.declared.table_key.TableKey.{TableKey}
use Rattle.gx_sweep.proofs.Places.{same_or_other}

rises : IsStrictlySortedBy rid_cmp []
unfolding IsStrictlySortedBy
rises = tt

pub rising_nothing : (rids : List Rid) → rids ≡ [] → IsStrictlySortedBy rid_cmp rids
rising_nothing rids none = subst (IsStrictlySortedBy rid_cmp) (sym none) rises

alone : (r : Rid) → IsStrictlySortedBy rid_cmp (r ∷ [])
unfolding IsStrictlySortedBy
alone r = (tt, tt)

pub rising_one : (r : Rid) (rids : List Rid) → rids ≡ r ∷ [] → IsStrictlySortedBy rid_cmp rids
rising_one r rids one = subst (IsStrictlySortedBy rid_cmp) (sym one) (alone r)

itself : (r : Rid) → is_eq (rid_cmp r r) ≡ true
itself r = grind (arith, nat_tests)

either_right : (a b : Bool) → b ≡ true → (a || b) ≡ true
either_right true b e = refl
either_right false b e = e

module _ (r : Rid) where
  has_once : (x : Rid) (xs : List Rid) (o : Ordering) → rid_cmp r x ≡ o → list_any (is_at (rid_cmp r)) (insert_key rid_cmp xs r) ≡ true → list_any (is_at (rid_cmp r)) (match_ordering o (r ∷ x ∷ xs) (x ∷ xs) (x ∷ insert_key rid_cmp xs r)) ≡ true
  has_once x xs Less is more = ap (λ (b : Bool). b || list_any (is_at (rid_cmp r)) (x ∷ xs)) (itself r)
  has_once x xs Equal is more = ap (λ (o : Ordering). is_eq o || list_any (is_at (rid_cmp r)) xs) is
  has_once x xs Greater is more = either_right (is_eq (rid_cmp r x)) (list_any (is_at (rid_cmp r)) (insert_key rid_cmp xs r)) more

  -- it is there
  pub has-insert_key : (xs : List Rid) → list_any (is_at (rid_cmp r)) (insert_key rid_cmp xs r) ≡ true
  has-insert_key [] = ap (λ (b : Bool). b || false) (itself r)
  has-insert_key (x ∷ xs) = has_once x xs (rid_cmp r x) refl (has-insert_key xs)

  module _ (q : Rid) where
    kept_once : (x : Rid) (xs : List Rid) (o : Ordering) (b : Bool) → is_eq (rid_cmp q x) ≡ b → (list_any (is_at (rid_cmp q)) xs ≡ true → list_any (is_at (rid_cmp q)) (insert_key rid_cmp xs r) ≡ true) → (b || list_any (is_at (rid_cmp q)) xs) ≡ true → list_any (is_at (rid_cmp q)) (match_ordering o (r ∷ x ∷ xs) (x ∷ xs) (x ∷ insert_key rid_cmp xs r)) ≡ true
    kept_once x xs Less b is more there =
        either_right (is_eq (rid_cmp q r)) (list_any (is_at (rid_cmp q)) (x ∷ xs)) (ap (λ (c : Bool). c || list_any (is_at (rid_cmp q)) xs) is ∙ there)
    kept_once x xs Equal b is more there = ap (λ (c : Bool). c || list_any (is_at (rid_cmp q)) xs) is ∙ there
    kept_once x xs Greater true is more there = ap (λ (c : Bool). c || list_any (is_at (rid_cmp q)) (insert_key rid_cmp xs r)) is
    kept_once x xs Greater false is more there = either_right (is_eq (rid_cmp q x)) (list_any (is_at (rid_cmp q)) (insert_key rid_cmp xs r)) (more there)

    -- and so is whoever was there
    pub kept-insert_key : (xs : List Rid) → list_any (is_at (rid_cmp q)) xs ≡ true → list_any (is_at (rid_cmp q)) (insert_key rid_cmp xs r) ≡ true
    kept-insert_key [] there = absurd (cc)
    kept-insert_key (x ∷ xs) there = kept_once x xs (rid_cmp r x) (is_eq (rid_cmp q x)) refl (kept-insert_key xs) there

module _ (old new : KeyIndex) (at : TableKey) (rid : Rid) where
  pub has-added : (o : Result (Unit {0}) OutOfMemory) → OnOk o (rids_under new at ≡ insert_key rid_cmp (rids_under old at) rid) → OnOk o (has_under new at rid ≡ true)
  has-added (Ok u) there = ap (list_any (is_at (rid_cmp rid))) there ∙ has-insert_key rid (rids_under old at)
  has-added (Err e) there = tt

  kept_there : (q : Rid) (o : Result (Unit {0}) OutOfMemory) → OnOk o (rids_under new at ≡ insert_key rid_cmp (rids_under old at) rid) → OnErr o (rids_under new at ≡ rids_under old at) → has_under old at q ≡ true → has_under new at q ≡ true
  kept_there q (Ok u) there same is = ap (list_any (is_at (rid_cmp q))) there ∙ kept-insert_key rid q (rids_under old at) is
  kept_there q (Err e) there same is = ap (list_any (is_at (rid_cmp q))) same ∙ is

  -- whatever came of it, nobody goes
  pub kept-added : (o : Result (Unit {0}) OutOfMemory) → OnOk o (rids_under new at ≡ insert_key rid_cmp (rids_under old at) rid) → OnErr o (rids_under new at ≡ rids_under old at) → ((p : TableKey) → p ≢ at → rids_under new p ≡ rids_under old p) → (p : TableKey) (q : Rid) → has_under old p q ≡ true → has_under new p q ≡ true
  kept-added o there same elsewhere p q is =
      ⊎_elim
      (λ (e : p ≡ at). subst (λ (k : TableKey). has_under old k q ≡ true → has_under new k q ≡ true) (sym e) (kept_there q o there same) is)
      (λ (other : p ≢ at). ap (list_any (is_at (rid_cmp q))) (elsewhere p other) ∙ is)
      (same_or_other p at)
