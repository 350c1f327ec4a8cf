-- What is kept of rows, one version after another.
use Rattle.std.proofs.Common.{◌≡◌, Bool, true, false, if◌then◌else◌, List, [], ◌∷◌, Option, Some, None, map, refl, sym, ap, ◌∙◌, subst, arith}
use Rattle.std.proofs.lemmas.Bool.Decides.{nat_tests}
use Rattle.std.specs.List.{AllByRecursion}
use Rattle.std.specs.List.Sorted.{IsStrictlySortedBy}
use Rattle.std.specs.Option.{option_or}
use Rattle.std.specs.Ordering.{is_lt}
use Rattle.std.specs.Prelude.{fold}
use Rattle.std.specs.declared.cmp.Ordering.TheVariants.{Less}
use Rattle.gx_ids.specs.declared.rid.Rid.{Rid}
use Rattle.gx_tree.specs.declared.value.Value.{Value}
use Rattle.gx_meaning.specs.Order.{rid_order}
use Rattle.gx_msg.specs.declared.item.Kept.{Kept}
use Rattle.gx_store.proofs.Rows.{same_rid}
use Rattle.gx_store.specs.Journals.{kept_with}
use Rattle.gx_store.specs.Marks.{is_same_rid}
use Rattle.gx_rules.specs.Segments.{Version}
use Rattle.gx_rules.specs.Shown.{kept_one, last_images}
use Rattle.gx_rules.specs.Last.{AreKeptInOrder, image_in, last_image}
use Rattle.gx_rules.proofs.RowOrder.{all_above, less_is, not_less}

-- the row that is put in is there, and the others are as before
image_in-kept_with : (new : Kept) (ks : List Kept) (r : Rid) → image_in r (kept_with new ks) ≡ (if is_same_rid new.rid r then Some new.image else image_in r ks)
image_in-kept_with new [] r = refl
image_in-kept_with new (k ∷ ks) r = by_place (image_in-kept_with new ks r) (is_same_rid k.rid new.rid) refl (is_lt (rid_order new.rid k.rid))
  where
    after : (a b : Bool) (x y z : Option (Option (List Value))) → (a ≡ true → b ≡ true → ⊥) → z ≡ (if b then x else y) → (if a then Some k.image else z) ≡ (if b then x else (if a then Some k.image else y))
    after true true x y z apart e = absurd (apart refl refl)
    after true false x y z apart e = refl
    after false b x y z apart e = e

    apart : is_same_rid k.rid new.rid ≡ false → is_same_rid k.rid r ≡ true → is_same_rid new.rid r ≡ true → ⊥
    apart other a b = grind (arith, nat_tests)

    same_test : is_same_rid k.rid new.rid ≡ true → is_same_rid k.rid r ≡ is_same_rid new.rid r
    same_test e = ap (λ (x : Rid). is_same_rid x r) (same_rid k.rid new.rid e)

    skipped : (a b : Bool) (x y z : Option (Option (List Value))) → a ≡ b → (if b then x else z) ≡ (if b then x else (if a then y else z))
    skipped true true x y z e = refl
    skipped false false x y z e = refl
    skipped true false x y z e = absurd (cc)
    skipped false true x y z e = absurd (cc)

    by_place : image_in r (kept_with new ks) ≡ (if is_same_rid new.rid r then Some new.image else image_in r ks) → (b : Bool) → is_same_rid k.rid new.rid ≡ b → (before : Bool) → image_in r (if b then new ∷ ks else (if before then new ∷ k ∷ ks else k ∷ kept_with new ks)) ≡ (if is_same_rid new.rid r then Some new.image else (if is_same_rid k.rid r then Some k.image else image_in r ks))
    by_place more true e before = skipped (is_same_rid k.rid r) (is_same_rid new.rid r) (Some new.image) (Some k.image) (image_in r ks) (same_test e)
    by_place more false e true = refl
    by_place more false e false = after (is_same_rid k.rid r) (is_same_rid new.rid r) (Some new.image) (image_in r ks) (image_in r (kept_with new ks)) (apart e) more

-- it is put in at its place
all-kept_with : (P : Rid → Type 0) (new : Kept) (ks : List Kept) → P new.rid → AllByRecursion P (map (λ k. k.rid) ks) → AllByRecursion P (map (λ k. k.rid) (kept_with new ks))
all-kept_with P new [] p all = (p, tt)
all-kept_with P new (k ∷ ks) p all = by_place (all-kept_with P new ks p all.1) (is_same_rid k.rid new.rid) (is_lt (rid_order new.rid k.rid))
  where
    by_place : AllByRecursion P (map (λ k. k.rid) (kept_with new ks)) → (b before : Bool) → AllByRecursion P (map (λ k. k.rid) (if b then new ∷ ks else (if before then new ∷ k ∷ ks else k ∷ kept_with new ks)))
    by_place more true before = (p, all.1)
    by_place more false true = (p, all)
    by_place more false false = (all.0, more)

in_order-kept_with : (new : Kept) (ks : List Kept) → AreKeptInOrder ks → AreKeptInOrder (kept_with new ks)
unfolding IsStrictlySortedBy
in_order-kept_with new [] rising = (tt, tt)
in_order-kept_with new (k ∷ ks) rising = by_place (is_same_rid k.rid new.rid) refl (is_lt (rid_order new.rid k.rid)) refl rising (in_order-kept_with new ks rising.1)
  where
    by_place : (b : Bool) → is_same_rid k.rid new.rid ≡ b → (before : Bool) → is_lt (rid_order new.rid k.rid) ≡ before → AreKeptInOrder (k ∷ ks) → AreKeptInOrder (kept_with new ks) → AreKeptInOrder (if b then new ∷ ks else (if before then new ∷ k ∷ ks else k ∷ kept_with new ks))
    by_place true e before f r more = (subst (λ x. AllByRecursion (λ y. rid_order x y ≡ Less) (map (λ k. k.rid) ks)) (same_rid k.rid new.rid e) r.0, r.1)
    by_place false e true f r more = ((less_is (rid_order new.rid k.rid) f, all_above new.rid k.rid (map (λ k. k.rid) ks) (less_is (rid_order new.rid k.rid) f) r.0), r)
    by_place false e false f r more = (all-kept_with (λ y. rid_order k.rid y ≡ Less) new ks (not_less k.rid new.rid e f) r.0, more)

-- VERSIONS, ONE AFTER ANOTHER
or_assoc : {A : Type 0} (a b c : Option A) → option_or (option_or a b) c ≡ option_or a (option_or b c)
or_assoc None b c = refl
or_assoc (Some x) b c = refl

as_or : (b : Bool) (x y : Option (Option (List Value))) (image : Option (List Value)) → (if b then Some image else y) ≡ option_or (if b then Some image else None) y
as_or true x y image = refl
as_or false x y image = refl

image_in-fold : (vs : List Version) (ks : List Kept) (r : Rid) → image_in r (fold kept_one ks vs) ≡ option_or (last_image r vs) (image_in r ks)
image_in-fold [] ks r = refl
image_in-fold (v ∷ vs) ks r =
    image_in-fold vs (kept_one ks v) r
    ∙ ap (option_or (last_image r vs)) (image_in-kept_with (record { rid = v.rid; table = v.table; image = v.image }) ks r ∙ as_or (is_same_rid v.rid r) None (image_in r ks) v.image)
    ∙ sym (or_assoc (last_image r vs) (if is_same_rid v.rid r then Some v.image else None) (image_in r ks))

or_none : {A : Type 0} (a : Option A) → option_or a None ≡ a
or_none None = refl
or_none (Some x) = refl

pub image_in-last_images : (vs : List Version) (r : Rid) → image_in r (last_images vs) ≡ last_image r vs
image_in-last_images vs r = image_in-fold vs [] r ∙ or_none (last_image r vs)

in_order-fold : (vs : List Version) (ks : List Kept) → AreKeptInOrder ks → AreKeptInOrder (fold kept_one ks vs)
in_order-fold [] ks rising = rising
in_order-fold (v ∷ vs) ks rising = in_order-fold vs (kept_one ks v) (in_order-kept_with (record { rid = v.rid; table = v.table; image = v.image }) ks rising)

nothing_rises : AreKeptInOrder []
unfolding IsStrictlySortedBy
nothing_rises = tt

pub in_order-last_images : (vs : List Version) → AreKeptInOrder (last_images vs)
in_order-last_images vs = in_order-fold vs [] nothing_rises
