-- Lists of rows that rise by their identities, and what passes a test.
use Rattle.std.proofs.Common.{◌≡◌, Bool, true, false, if◌then◌else◌, cond, List, [], ◌∷◌, Option, Some, None, map, filter, refl, sym, ap, ◌∙◌, subst}
use Rattle.std.specs.List.{AllByRecursion}
use Rattle.std.specs.List.Sorted.{IsStrictlySortedBy}
use Rattle.std.specs.declared.cmp.Ordering.TheVariants.{Less}
use Rattle.gx_ids.specs.declared.rid.Rid.{Rid}
use Rattle.gx_tree.specs.declared.row.KeyedRow.{KeyedRow}
use Rattle.gx_tree.specs.declared.value.Value.{Value}
use Rattle.gx_meaning.specs.Answer.{AreRising}
use Rattle.gx_meaning.specs.Order.{rid_order}
use Rattle.gx_store.specs.Marks.{is_same_rid}
use Rattle.gx_store.specs.Rows.{row_at}
use Rattle.gx_store.proofs.Rows.{is_same_rid-refl, same_rid}
use Rattle.gx_rules.proofs.RowOrder.{less_apart}

abbrev Above : Rid → List KeyedRow → Type 0
Above rid xs = AllByRecursion (λ r. rid_order rid r ≡ Less) (map (λ row. row.rid) xs)

none-above : (rid : Rid) (xs : List KeyedRow) → Above rid xs → row_at xs rid ≡ None
none-above rid [] all = refl
none-above rid (x ∷ xs) all = ap (λ (b : Bool). cond b (Some x.row) (row_at xs rid)) (less_apart rid x.rid all.0) ∙ none-above rid xs all.1

none-some : (row : List Value) → None ≡ Some row → ⊥
none-some row e = cc

-- ---- a test that only some rows pass
abbrev pub passing : (KeyedRow → Bool) → Rid → Option (List Value) → Option (List Value)
passing p rid None = None
passing p rid (Some row) = if p (record { rid = rid; row = row }) then Some row else None

module _ (p : KeyedRow → Bool) where
  kept-rids : (P : Rid → Type 0) (xs : List KeyedRow) → AllByRecursion P (map (λ row. row.rid) xs) → AllByRecursion P (map (λ row. row.rid) (filter p xs))
  kept-rids P [] all = tt
  kept-rids P (x ∷ xs) all = by_test (p x) (kept-rids P xs all.1)
    where
      by_test : (b : Bool) → AllByRecursion P (map (λ row. row.rid) (filter p xs)) → AllByRecursion P (map (λ row. row.rid) (cond b (x ∷ filter p xs) (filter p xs)))
      by_test true more = (all.0, more)
      by_test false more = more

  pub rising-filter : (xs : List KeyedRow) → AreRising xs → AreRising (filter p xs)
  unfolding IsStrictlySortedBy
  rising-filter [] rising = tt
  rising-filter (x ∷ xs) rising = by_test (p x) (rising-filter xs rising.1)
    where
      by_test : (b : Bool) → AreRising (filter p xs) → AreRising (cond b (x ∷ filter p xs) (filter p xs))
      by_test true more = (kept-rids (λ r. rid_order x.rid r ≡ Less) xs rising.0, more)
      by_test false more = more

  at-step : (x : KeyedRow) (xs : List KeyedRow) (rid : Rid) (a b : Bool) → p x ≡ a → is_same_rid x.rid rid ≡ b → (b ≡ true → row_at (filter p xs) rid ≡ None) → row_at (filter p xs) rid ≡ passing p rid (row_at xs rid) → row_at (cond a (x ∷ filter p xs) (filter p xs)) rid ≡ passing p rid (cond b (Some x.row) (row_at xs rid))
  at-step x xs rid true true e f none more =
      ap (λ b. cond b (Some x.row) (row_at (filter p xs) rid)) f
      ∙ ap (λ b. cond b (Some x.row) None) (sym e ∙ ap (λ r. let y : KeyedRow = record { rid = r; row = x.row } in p y) (same_rid x.rid rid f))
  at-step x xs rid true false e f none more = ap (λ b. cond b (Some x.row) (row_at (filter p xs) rid)) f ∙ more
  at-step x xs rid false true e f none more =
      none refl ∙ ap (λ b. cond b (Some x.row) None) (sym e ∙ ap (λ r. let y : KeyedRow = record { rid = r; row = x.row } in p y) (same_rid x.rid rid f))
  at-step x xs rid false false e f none more = more

  pub filter-at : (xs : List KeyedRow) (rid : Rid) → AreRising xs → row_at (filter p xs) rid ≡ passing p rid (row_at xs rid)
  unfolding IsStrictlySortedBy
  filter-at [] rid rising = refl
  filter-at (x ∷ xs) rid rising =
      at-step x xs rid (p x) (is_same_rid x.rid rid) refl refl
      (λ s. subst (λ r. row_at (filter p xs) r ≡ None) (same_rid x.rid rid s) (none-above x.rid (filter p xs) (kept-rids (λ r. rid_order x.rid r ≡ Less) xs rising.0)))
      (filter-at xs rid rising.1)

  -- what holds of those that pass holds of each that does
  pub from-filter : (P : KeyedRow → Type 0) (xs : List KeyedRow) → AllByRecursion P (filter p xs) → AllByRecursion (λ x. p x ≡ true → P x) xs
  from-filter P [] all = tt
  from-filter P (x ∷ xs) all = by_test (p x) refl all (from-filter P xs)
    where
      no : true ≡ false → ⊥
      no e = cc

      by_test : (b : Bool) → p x ≡ b → AllByRecursion P (cond b (x ∷ filter p xs) (filter p xs)) → (AllByRecursion P (filter p xs) → AllByRecursion (λ x. p x ≡ true → P x) xs) → (p x ≡ true → P x) × AllByRecursion (λ x. p x ≡ true → P x) xs
      by_test true e h more = (λ t. h.0, more h.1)
      by_test false e h more = (λ t. absurd (no (sym t ∙ e)), more h)

  pub to-filter : (P : KeyedRow → Type 0) (xs : List KeyedRow) → AllByRecursion (λ x. p x ≡ true → P x) xs → AllByRecursion P (filter p xs)
  to-filter P [] all = tt
  to-filter P (x ∷ xs) all = by_test (p x) refl (to-filter P xs all.1)
    where
      by_test : (b : Bool) → p x ≡ b → AllByRecursion P (filter p xs) → AllByRecursion P (cond b (x ∷ filter p xs) (filter p xs))
      by_test true e more = (all.0 e, more)
      by_test false e more = more

-- what holds of the row at each identity holds of each row
pub each-at : (P : KeyedRow → Type 0) (xs : List KeyedRow) → AreRising xs → ((rid : Rid) (row : List Value) → row_at xs rid ≡ Some row → P (record { rid = rid; row = row })) → AllByRecursion P xs
unfolding IsStrictlySortedBy
each-at P [] rising h = tt
each-at P (x ∷ xs) rising h =
    (h x.rid x.row (ap (λ (b : Bool). cond b (Some x.row) (row_at xs x.rid)) (is_same_rid-refl x.rid)), each-at P xs rising.1 later)
  where
    later : (rid : Rid) (row : List Value) → row_at xs rid ≡ Some row → P (record { rid = rid; row = row })
    later rid row e = by_test (is_same_rid x.rid rid) refl
      where
        by_test : (b : Bool) → is_same_rid x.rid rid ≡ b → P (record { rid = rid; row = row })
        by_test true s = absurd (none-some row (sym (subst (λ r. row_at xs r ≡ None) (same_rid x.rid rid s) (none-above x.rid xs rising.0)) ∙ e))
        by_test false s = h rid row (ap (λ (b : Bool). cond b (Some x.row) (row_at xs rid)) s ∙ e)

-- ---- two tests
module _ (p q : KeyedRow → Bool) where
  comm-step : (x : KeyedRow) (xs : List KeyedRow) (b c : Bool) → p x ≡ b → q x ≡ c → filter p (filter q xs) ≡ filter q (filter p xs) → filter p (cond c (x ∷ filter q xs) (filter q xs)) ≡ filter q (cond b (x ∷ filter p xs) (filter p xs))
  comm-step x xs true true e f more =
      ap (λ (d : Bool). cond d (x ∷ filter p (filter q xs)) (filter p (filter q xs))) e
      ∙ ap (λ (l : List KeyedRow). x ∷ l) more
      ∙ sym (ap (λ (d : Bool). cond d (x ∷ filter q (filter p xs)) (filter q (filter p xs))) f)
  comm-step x xs true false e f more = more ∙ sym (ap (λ (d : Bool). cond d (x ∷ filter q (filter p xs)) (filter q (filter p xs))) f)
  comm-step x xs false true e f more = ap (λ (d : Bool). cond d (x ∷ filter p (filter q xs)) (filter p (filter q xs))) e ∙ more
  comm-step x xs false false e f more = more

  pub filter-comm : (xs : List KeyedRow) → filter p (filter q xs) ≡ filter q (filter p xs)
  filter-comm [] = refl
  filter-comm (x ∷ xs) = comm-step x xs (p x) (q x) refl refl (filter-comm xs)

pub filter-twice : (p : KeyedRow → Bool) (xs : List KeyedRow) → filter p (filter p xs) ≡ filter p xs
filter-twice p [] = refl
filter-twice p (x ∷ xs) = by_test (p x) refl (filter-twice p xs)
  where
    by_test : (b : Bool) → p x ≡ b → filter p (filter p xs) ≡ filter p xs → filter p (cond b (x ∷ filter p xs) (filter p xs)) ≡ cond b (x ∷ filter p xs) (filter p xs)
    by_test true e more = ap (λ (d : Bool). cond d (x ∷ filter p (filter p xs)) (filter p (filter p xs))) e ∙ ap (λ (l : List KeyedRow). x ∷ l) more
    by_test false e more = more
