-- Every view has its rows, and no others.
use Rattle.std.proofs.Common.{◌≡◌, ◌==◌, nat_lt, ◌&&◌, ◌||◌, List, [], ◌∷◌, ◌++◌, Option, Some, None, Bool, true, false, refl, sym, ap, ◌∙◌, cond, if◌then◌else◌, filter, map, arith, subst}
use Rattle.std.proofs.lemmas.Bool.Decides.{nat_tests}
use Rattle.std.proofs.Math.Path.{fun_ext}
use Rattle.std.specs.List.{AllByRecursion}
use Rattle.std.specs.List.Sorted.{IsStrictlySortedBy}
use Rattle.std.specs.Map.{keys_of, lookup}
use Rattle.std.specs.BTreeMap.{insert_entry, is_at}
use Rattle.std.specs.BTreeSet.{BTreeSet}
use Rattle.std.specs.Cmp.{on_total}
use Rattle.std.specs.Ordering.{is_eq, match_ordering}
use Rattle.std.specs.declared.cmp.Ordering.{Ordering}
use Rattle.std.specs.declared.cmp.Ordering.TheVariants.{Less, Equal, Greater}
use Rattle.gx_ids.specs.declared.ids.Cid.{Cid}
use Rattle.gx_ids.specs.declared.ids.Gxid.{Gxid}
use Rattle.gx_ids.specs.declared.ids.Table.{Table}
use Rattle.gx_ids.specs.declared.rid.Rid.{Rid}
use Rattle.gx_meaning.specs.Answer.{AreRising}
use Rattle.gx_meaning.specs.Order.{rid_order}
use Rattle.gx_rows.proofs.Entries.{lookup-insert_entry_other, lookup-insert_entry_same, rid_cmp-total}
use Rattle.gx_gather.proofs.InOrder.{rises_same}
use Rattle.gx_gather.proofs.Listing.{rises_from_strict}
use Rattle.gx_gather.proofs.Orders.{rid_order-total}
use Rattle.gx_tree.specs.declared.row.KeyedRow.{KeyedRow}
use Rattle.gx_tree.specs.declared.value.Value.{Value}
use Rattle.gx_store.proofs.Rows.{same_rid}
use Rattle.gx_store.specs.declared.mark.Mark.{Mark}
use Rattle.gx_store.specs.declared.mark.Mark.TheVariants as mark
use Rattle.gx_store.specs.Marks.{is_same_gxid, is_same_rid}
use Rattle.gx_store.specs.Rows.{row_at}
use Rattle.gx_store.specs.View.{IsView, Reader, image_after, is_shown_to}
use Rattle.gx_legal.specs.Gathered.{committed_from}
use Rattle.gx_legal.proofs.Gathered.{committed-gathered}
use Rattle.gx_legal.specs.Viewed.{Images, images_from, is_seen_by, listed, row_in, view_rows}

abbrev Image : Type 0
Image = Option (List Value)

-- the image that stands at a row, if one does
abbrev image_of : Option Image → Image
image_of None = None
image_of (Some image) = image

abbrev image_in : Rid → Images → Image
image_in rid images = image_of (lookup (is_at (rid_order rid)) images)

-- AN IMAGE PUT IN
same_test : (q r : Rid) → is_eq (rid_order q r) ≡ is_same_rid r q
same_test q r = grind (arith, nat_tests)

image_in-insert : (images : Images) (rid : Rid) (image : Image) (q : Rid) → image_in q (insert_entry rid_order images rid image) ≡ (if is_same_rid rid q then image else image_in q images)
image_in-insert images rid image q = either (is_same_rid rid q) refl
  where
    either : (b : Bool) → is_same_rid rid q ≡ b → image_in q (insert_entry rid_order images rid image) ≡ (if b then image else image_in q images)
    either true e =
        ap (λ r. image_in r (insert_entry rid_order images rid image)) (sym (same_rid rid q e))
        ∙ ap image_of (lookup-insert_entry_same rid_cmp-total rid image images)
    either false e = ap image_of (lookup-insert_entry_other rid_cmp-total rid image q images (same_test q rid ∙ e))

abbrev Rises : Images → Type 0
Rises images = IsStrictlySortedBy rid_order (keys_of images)

above-insert : (P : Rid → Type 0) (images : Images) (rid : Rid) (image : Image) → P rid → AllByRecursion P (keys_of images) → AllByRecursion P (keys_of (insert_entry rid_order images rid image))
above-insert P [] rid image p all = (p, tt)
above-insert P (e ∷ es) rid image p all = by_order (rid_order rid e.0) (above-insert P es rid image p all.1)
  where
    by_order : (o : Ordering) → AllByRecursion P (keys_of (insert_entry rid_order es rid image)) → AllByRecursion P (keys_of (match_ordering o ((rid, image) ∷ e ∷ es) ((e.0, image) ∷ es) (e ∷ insert_entry rid_order es rid image)))
    by_order Less more = (p, all)
    by_order Equal more = all
    by_order Greater more = (all.0, more)

less_trans : (a b c : Rid) → rid_order a b ≡ Less → rid_order b c ≡ Less → rid_order a c ≡ Less
less_trans a b c e f = grind (arith, nat_tests)

less_apart : (a b : Rid) → rid_order a b ≡ Less → is_same_rid b a ≡ false
less_apart a b e = grind (arith, nat_tests)

all_above : (a b : Rid) (rs : List Rid) → rid_order a b ≡ Less → AllByRecursion (λ r. rid_order b r ≡ Less) rs → AllByRecursion (λ r. rid_order a r ≡ Less) rs
all_above a b [] e all = tt
all_above a b (r ∷ rs) e all = (less_trans a b r e all.0, all_above a b rs e all.1)

turned : (a b : Rid) → rid_order a b ≡ Greater → rid_order b a ≡ Less
turned a b e = grind (arith, nat_tests)

rises-insert : (images : Images) (rid : Rid) (image : Image) → Rises images → Rises (insert_entry rid_order images rid image)
unfolding IsStrictlySortedBy
rises-insert [] rid image rising = (tt, tt)
rises-insert (e ∷ es) rid image rising = by_order (rid_order rid e.0) refl (rises-insert es rid image rising.1)
  where
    by_order : (o : Ordering) → rid_order rid e.0 ≡ o → Rises (insert_entry rid_order es rid image) → Rises (match_ordering o ((rid, image) ∷ e ∷ es) ((e.0, image) ∷ es) (e ∷ insert_entry rid_order es rid image))
    by_order Less is more = ((is, all_above rid e.0 (keys_of es) is rising.0), rising)
    by_order Equal is more = rising
    by_order Greater is more = (above-insert (λ r. rid_order e.0 r ≡ Less) es rid image (turned rid e.0 is) rising.0, more)

-- ALL SHOWN WRITES
module _ (shown : Gxid → Cid → Bool) (table : Table) where
  rises-images : (images : Images) (ms : List Mark) → Rises images → Rises (images_from shown table images ms)
  rises-images images [] rising = rising
  rises-images images (mark.Write g c n t rid image ∷ ms) rising =
      by_test
      (rises-images (insert_entry rid_order images rid image) ms (rises-insert images rid image rising))
      (rises-images images ms rising)
      ((t.0 == table.0) && shown g c)
    where
      by_test : Rises (images_from shown table (insert_entry rid_order images rid image) ms) → Rises (images_from shown table images ms) → (b : Bool) → Rises (images_from shown table (if b then insert_entry rid_order images rid image else images) ms)
      by_test put same true = put
      by_test put same false = same
  rises-images images (_ ∷ ms) rising = rises-images images ms rising

  image_in-images : (q : Rid) (images : Images) (ms : List Mark) → image_in q (images_from shown table images ms) ≡ image_after shown table q (image_in q images) ms
  image_in-images q images [] = refl
  image_in-images q images (mark.Write g c n t rid image ∷ ms) =
      by_test
      (image_in-images q (insert_entry rid_order images rid image) ms ∙ ap (λ i. image_after shown table q i ms) (image_in-insert images rid image q))
      (image_in-images q images ms)
      (shown g c)
      (t.0 == table.0)
    where
      by_test : image_in q (images_from shown table (insert_entry rid_order images rid image) ms) ≡ image_after shown table q (if is_same_rid rid q then image else image_in q images) ms → image_in q (images_from shown table images ms) ≡ image_after shown table q (image_in q images) ms → (a b : Bool) → image_in q (images_from shown table (if b && a then insert_entry rid_order images rid image else images) ms) ≡ image_after shown table q (if a && (b && is_same_rid rid q) then image else image_in q images) ms
      by_test put same true true = put
      by_test put same true false = same
      by_test put same false true = same
      by_test put same false false = same
  image_in-images q images (_ ∷ ms) = image_in-images q images ms

-- THE ROWS
abbrev rids_of : List KeyedRow → List Rid
rids_of rows = map (λ row. row.rid) rows

all-listed : (P : Rid → Type 0) (es : Images) → AllByRecursion P (keys_of es) → AllByRecursion P (rids_of (listed es))
all-listed P [] all = tt
all-listed P (e ∷ es) all = either e.1 (all-listed P es all.1)
  where
    either : (image : Image) → AllByRecursion P (rids_of (listed es)) → AllByRecursion P (rids_of (row_in e.0 image ++ listed es))
    either None more = more
    either (Some row) more = (all.0, more)

rising-listed : (es : Images) → Rises es → AreRising (listed es)
unfolding IsStrictlySortedBy
rising-listed [] rising = tt
rising-listed (e ∷ es) rising = either e.1 (rising-listed es rising.1)
  where
    either : (image : Image) → AreRising (listed es) → IsStrictlySortedBy rid_order (rids_of (row_in e.0 image ++ listed es))
    either None more = more
    either (Some row) more = (all-listed (λ r. rid_order e.0 r ≡ Less) es rising.0, more)

pub none_above : (rid : Rid) (xs : List KeyedRow) → AllByRecursion (λ r. rid_order rid r ≡ Less) (rids_of xs) → row_at xs rid ≡ None
none_above rid [] all = refl
none_above rid (x ∷ xs) all = ap (λ (b : Bool). cond b (Some x.row) (row_at xs rid)) (less_apart rid x.rid all.0) ∙ none_above rid xs all.1

row_at-listed : (es : Images) (q : Rid) → Rises es → row_at (listed es) q ≡ image_in q es
unfolding IsStrictlySortedBy
row_at-listed [] q rising = refl
row_at-listed (e ∷ es) q rising = either e.1 (is_same_rid e.0 q) refl (row_at-listed es q rising.1)
  where
    found : (image : Image) (b : Bool) → is_same_rid e.0 q ≡ b → (if b then image else image_in q es) ≡ image_of (cond (is_eq (rid_order q e.0)) (Some image) (lookup (is_at (rid_order q)) es))
    found image true f = ap (λ (b : Bool). image_of (cond b (Some image) (lookup (is_at (rid_order q)) es))) (sym f ∙ sym (same_test q e.0))
    found image false f = ap (λ (b : Bool). image_of (cond b (Some image) (lookup (is_at (rid_order q)) es))) (sym f ∙ sym (same_test q e.0))

    gone : is_same_rid e.0 q ≡ true → row_at (listed es) q ≡ None
    gone f = ap (row_at (listed es)) (sym (same_rid e.0 q f)) ∙ none_above e.0 (listed es) (all-listed (λ r. rid_order e.0 r ≡ Less) es rising.0)

    either : (image : Image) (b : Bool) → is_same_rid e.0 q ≡ b → row_at (listed es) q ≡ image_in q es → row_at (row_in e.0 image ++ listed es) q ≡ image_of (cond (is_eq (rid_order q e.0)) (Some image) (lookup (is_at (rid_order q)) es))
    either None true f more = gone f ∙ found None true f
    either None false f more = more ∙ found None false f
    either (Some row) true f more = ap (λ (b : Bool). cond b (Some row) (row_at (listed es) q)) f ∙ found (Some row) true f
    either (Some row) false f more = ap (λ (b : Bool). cond b (Some row) (row_at (listed es) q)) f ∙ more ∙ found (Some row) false f

nothing_rises : Rises []
unfolding IsStrictlySortedBy
nothing_rises = tt

pub view-is : (marks before : List Mark) (reader : Reader) (table : Table) → IsView marks before reader table (view_rows marks before reader table)
view-is marks before reader table =
    let shown : Gxid → Cid → Bool = is_shown_to reader before in
    let rising = rises-images shown table [] marks nothing_rises in
    record {
      rising = rising-listed (images_from shown table [] marks) rising;
      images = λ rid. row_at-listed (images_from shown table [] marks) rid rising ∙ image_in-images shown table rid [] marks;
    }

seen-shown : (committed : BTreeSet Gxid) (before : List Mark) (reader : Reader) → committed.keys ≡ committed_from [] before → is_seen_by reader committed ≡ is_shown_to reader before
seen-shown committed before None gathered = fun_ext (λ g. fun_ext (λ c. committed-gathered committed before gathered g))
seen-shown committed before (Some own) gathered = fun_ext (λ g. fun_ext (λ c. ap (λ b. b || (is_same_gxid own.0 g && nat_lt c.0 own.1.0)) (committed-gathered committed before gathered g)))

-- the rows as the code gathers them
pub view-gathered : (marks before : List Mark) (committed : BTreeSet Gxid) (reader : Reader) (table : Table) → committed.keys ≡ committed_from [] before → listed (images_from (is_seen_by reader committed) table [] marks) ≡ view_rows marks before reader table
view-gathered marks before committed reader table gathered = ap (λ (shown : Gxid → Cid → Bool). listed (images_from shown table [] marks)) (seen-shown committed before reader gathered)

-- ROWS ARE THEIR IMAGES
module _ (q : Rid) where
  abbrev at : List KeyedRow → List KeyedRow
  at xs = filter (λ x. is_eq (rid_order q x.rid)) xs

  at-row : (xs : List KeyedRow) → AreRising xs → at xs ≡ row_in q (row_at xs q)
  unfolding IsStrictlySortedBy
  at-row [] rising = refl
  at-row (x ∷ xs) rising = by_test (is_same_rid x.rid q) refl (at-row xs rising.1)
    where
      whole : x.rid ≡ q → x ∷ [] ≡ row_in q (Some x.row)
      whole e = ap (λ r. let y : KeyedRow = record { rid = r; row = x.row } in y ∷ []) e

      by_test : (b : Bool) → is_same_rid x.rid q ≡ b → at xs ≡ row_in q (row_at xs q) → cond (is_eq (rid_order q x.rid)) (x ∷ at xs) (at xs) ≡ row_in q (cond (is_same_rid x.rid q) (Some x.row) (row_at xs q))
      by_test true e more =
          let here = same_rid x.rid q e in
          ap (λ (b : Bool). cond b (x ∷ at xs) (at xs)) (same_test q x.rid ∙ e)
          ∙ ap (λ l. x ∷ l) (more ∙ ap (row_in q) (subst (λ r. row_at xs r ≡ None) here (none_above x.rid xs rising.0)))
          ∙ whole here
          ∙ ap (λ (b : Bool). row_in q (cond b (Some x.row) (row_at xs q))) (sym e)
      by_test false e more = ap (λ (b : Bool). cond b (x ∷ at xs) (at xs)) (same_test q x.rid ∙ e) ∙ more ∙ ap (λ (b : Bool). row_in q (cond b (Some x.row) (row_at xs q))) (sym e)

rows-same : (xs ys : List KeyedRow) → AreRising xs → AreRising ys → ((rid : Rid) → row_at xs rid ≡ row_at ys rid) → xs ≡ ys
rows-same xs ys rx ry same =
    let rid_of : KeyedRow → Rid = λ row. row.rid in
    rises_same (on_total rid_of rid_order-total) xs ys (rises_from_strict rid_order-total rid_of xs rx) (rises_from_strict rid_order-total rid_of ys ry)
    (λ q. at-row q.rid xs rx ∙ ap (row_in q.rid) (same q.rid) ∙ sym (at-row q.rid ys ry))

-- a view has no other rows than these
pub view-same : (marks before : List Mark) (reader : Reader) (table : Table) (rows : List KeyedRow) → IsView marks before reader table rows → rows ≡ view_rows marks before reader table
view-same marks before reader table rows view =
    let own = view-is marks before reader table in
    rows-same rows (view_rows marks before reader table) view.rising own.rising (λ rid. view.images rid ∙ sym (own.images rid))
