-- Rows that rise by their identities.
use Rattle.std.proofs.Common.{◌≡◌, Bool, true, false, if◌then◌else◌, cond, List, [], ◌∷◌, ◌++◌, Option, Some, None, map, refl, sym, ap, ◌∙◌, subst}
use Rattle.std.specs.List.{AllByRecursion}
use Rattle.std.specs.List.Sorted.{IsStrictlySortedBy}
use Rattle.std.specs.declared.cmp.Ordering.TheVariants.{Less}
use Rattle.gx_ids.specs.declared.rid.Rid.{Rid}
use Rattle.gx_tree.specs.declared.row.KeyedRow.{KeyedRow}
use Rattle.gx_tree.specs.declared.value.Value.{Value}
use Rattle.gx_meaning.specs.Answer.{AreRising}
use Rattle.gx_meaning.specs.Order.{rid_order}
use Rattle.gx_msg.specs.declared.item.Kept.{Kept}
use Rattle.gx_store.proofs.Rows.{is_same_rid-refl, same_rid}
use Rattle.gx_store.specs.Marks.{is_same_rid}
use Rattle.gx_store.specs.Rows.{row_at}
use Rattle.gx_rules.specs.Shown.{row_in, rows_in}
use Rattle.gx_rules.specs.Last.{AreKeptInOrder, image_in, row_of}
use Rattle.gx_rules.proofs.RowOrder.{all_above, less_apart, less_is, not_less}
use Rattle.std.specs.Ordering.{is_lt}

-- ROWS OF WHAT IS KEPT
all-rows_in : (P : Rid → Type 0) (ks : List Kept) → AllByRecursion P (map (λ k. k.rid) ks) → AllByRecursion P (map (λ row. row.rid) (rows_in ks))
all-rows_in P [] all = tt
all-rows_in P (k ∷ ks) all = either (all-rows_in P ks all.1) k.image
  where
    either : AllByRecursion P (map (λ row. row.rid) (rows_in ks)) → (image : Option (List Value)) → AllByRecursion P (map (λ row. row.rid) (row_in k.rid image ++ rows_in ks))
    either more None = more
    either more (Some row) = (all.0, more)

pub rising-rows_in : (ks : List Kept) → AreKeptInOrder ks → AreRising (rows_in ks)
unfolding IsStrictlySortedBy
rising-rows_in [] rising = tt
rising-rows_in (k ∷ ks) rising = either (rising-rows_in ks rising.1) k.image
  where
    either : AreRising (rows_in ks) → (image : Option (List Value)) → IsStrictlySortedBy rid_order (map (λ row. row.rid) (row_in k.rid image ++ rows_in ks))
    either more None = more
    either more (Some row) = (all-rows_in (λ r. rid_order k.rid r ≡ Less) ks rising.0, more)

none_above : (rid : Rid) (xs : List KeyedRow) → AllByRecursion (λ r. rid_order rid r ≡ Less) (map (λ row. row.rid) xs) → row_at xs rid ≡ None
none_above rid [] all = refl
none_above rid (x ∷ xs) all = ap (λ (b : Bool). cond b (Some x.row) (row_at xs rid)) (less_apart rid x.rid all.0) ∙ none_above rid xs all.1

pub row_at-rows_in : (ks : List Kept) (r : Rid) → AreKeptInOrder ks → row_at (rows_in ks) r ≡ row_of (image_in r ks)
unfolding IsStrictlySortedBy
row_at-rows_in [] r rising = refl
row_at-rows_in (k ∷ ks) r rising = either k.image (is_same_rid k.rid r) refl (row_at-rows_in ks r rising.1)
  where
    either : (image : Option (List Value)) (b : Bool) → is_same_rid k.rid r ≡ b → row_at (rows_in ks) r ≡ row_of (image_in r ks) → row_at (row_in k.rid image ++ rows_in ks) r ≡ row_of (if is_same_rid k.rid r then Some image else image_in r ks)
    either None true e later =
        subst (λ x. row_at (rows_in ks) x ≡ None) (same_rid k.rid r e) (none_above k.rid (rows_in ks) (all-rows_in (λ x. rid_order k.rid x ≡ Less) ks rising.0))
        ∙ ap (λ (b : Bool). row_of (if b then Some None else image_in r ks)) (sym e)
    either None false e later = later ∙ ap (λ (b : Bool). row_of (if b then Some None else image_in r ks)) (sym e)
    either (Some row) true e later = ap (λ (b : Bool). if b then Some row else row_at (rows_in ks) r) e ∙ ap (λ (b : Bool). row_of (if b then Some (Some row) else image_in r ks)) (sym e)
    either (Some row) false e later = ap (λ (b : Bool). if b then Some row else row_at (rows_in ks) r) e ∙ later ∙ ap (λ (b : Bool). row_of (if b then Some (Some row) else image_in r ks)) (sym e)

-- ROWS ARE THEIR IMAGES
itself : (x : KeyedRow) (xs : List KeyedRow) → row_at (x ∷ xs) x.rid ≡ Some x.row
itself x xs = ap (λ (b : Bool). cond b (Some x.row) (row_at xs x.rid)) (is_same_rid-refl x.rid)

abbrev AllAbove : Rid → List KeyedRow → Type 0
AllAbove rid xs = AllByRecursion (λ r. rid_order rid r ≡ Less) (map (λ row. row.rid) xs)

-- a row that stands before all of a list isn't in it
not_there : (x : KeyedRow) (xs ys : List KeyedRow) → AllAbove x.rid ys → ((rid : Rid) → row_at (x ∷ xs) rid ≡ row_at ys rid) → ⊥
not_there x xs ys above same = differ (sym (itself x xs) ∙ same x.rid ∙ none_above x.rid ys above)
  where
    differ : Some x.row ≡ None → ⊥
    differ e = cc

some_same : {A : Type 0} (a b : A) → Some a ≡ Some b → a ≡ b
some_same a b e = cc

below : (x y : KeyedRow) (ys : List KeyedRow) → rid_order x.rid y.rid ≡ Less → AllAbove y.rid ys → AllAbove x.rid (y ∷ ys)
below x y ys e above = (e, all_above x.rid y.rid (map (λ row. row.rid) ys) e above)

tails : (x y : KeyedRow) (xs ys : List KeyedRow) → x.rid ≡ y.rid → AllAbove x.rid xs → AllAbove y.rid ys → ((rid : Rid) → row_at (x ∷ xs) rid ≡ row_at (y ∷ ys) rid) → (rid : Rid) → row_at xs rid ≡ row_at ys rid
tails x y xs ys e above above' same rid = either (is_same_rid x.rid rid) refl
  where
    either : (b : Bool) → is_same_rid x.rid rid ≡ b → row_at xs rid ≡ row_at ys rid
    either true at =
        let here : x.rid ≡ rid = same_rid x.rid rid at in
        subst (λ r. row_at xs r ≡ None) here (none_above x.rid xs above) ∙ sym (subst (λ r. row_at ys r ≡ None) (sym e ∙ here) (none_above y.rid ys above'))
    either false other =
        ap (λ (b : Bool). cond b (Some x.row) (row_at xs rid)) (sym other)
        ∙ same rid
        ∙ ap (λ (b : Bool). cond b (Some y.row) (row_at ys rid)) (subst (λ r. is_same_rid r rid ≡ false) e other)

one_row : (x y : KeyedRow) → x.rid ≡ y.rid → x.row ≡ y.row → x ≡ y
one_row x y e f = ap (λ r. let k : KeyedRow = record { rid = r; row = x.row } in k) e ∙ ap (λ r. let k : KeyedRow = record { rid = y.rid; row = r } in k) f

pub rows-same : (xs ys : List KeyedRow) → AreRising xs → AreRising ys → ((rid : Rid) → row_at xs rid ≡ row_at ys rid) → xs ≡ ys
unfolding IsStrictlySortedBy
rows-same [] [] rx ry same = refl
rows-same [] (y ∷ ys) rx ry same = absurd (not_there y ys [] tt (λ rid. sym (same rid)))
rows-same (x ∷ xs) [] rx ry same = absurd (not_there x xs [] tt same)
rows-same (x ∷ xs) (y ∷ ys) rx ry same = either (λ e. rows-same xs ys rx.1 ry.1 (tails x y xs ys e rx.0 ry.0 same)) (is_same_rid x.rid y.rid) refl (is_lt (rid_order y.rid x.rid)) refl
  where
    joined : x ≡ y → xs ≡ ys → x ∷ xs ≡ y ∷ ys
    joined e f = ap (λ k. k ∷ xs) e ∙ ap (λ ks. y ∷ ks) f

    together : (x.rid ≡ y.rid → xs ≡ ys) → x.rid ≡ y.rid → x ∷ xs ≡ y ∷ ys
    together more e =
        joined (one_row x y e (some_same x.row y.row (sym (itself x xs) ∙ same x.rid ∙ subst (λ r. row_at (y ∷ ys) r ≡ Some y.row) (sym e) (itself y ys))))
        (more e)

    either : (x.rid ≡ y.rid → xs ≡ ys) → (b : Bool) → is_same_rid x.rid y.rid ≡ b → (before : Bool) → is_lt (rid_order y.rid x.rid) ≡ before → x ∷ xs ≡ y ∷ ys
    either more true e before f = together more (same_rid x.rid y.rid e)
    either more false e true f = absurd (not_there y ys (x ∷ xs) (below y x xs (less_is (rid_order y.rid x.rid) f) rx.0) (λ rid. sym (same rid)))
    either more false e false f = absurd (not_there x xs (y ∷ ys) (below x y ys (not_less x.rid y.rid e f) ry.0) same)
