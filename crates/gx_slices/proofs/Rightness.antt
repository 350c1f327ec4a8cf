-- Rows have the kinds of their table, and conditions a meaning on them.
use Rattle.std.proofs.Common.{◌≡◌, Bool, true, false, if◌then◌else◌, eqb, ◌&&◌, List, [], ◌∷◌, ◌++◌, Option, Some, None, filter, slice_get, refl, sym, subst}
use Rattle.std.proofs.lemmas.List.Elements.{All-push, recursion_from_All}
use Rattle.std.specs.Prelude.{fold, All, IsTrue}
use Rattle.std.specs.List.{AllByRecursion, list_all}
use Rattle.std.specs.Ordering.{is_lt}
use Rattle.gx_ids.specs.declared.ids.Cid.{Cid}
use Rattle.gx_ids.specs.declared.ids.Gxid.{Gxid}
use Rattle.gx_ids.specs.declared.ids.Table.{Table}
use Rattle.gx_tree.specs.declared.cond.Cond.{Cond}
use Rattle.gx_tree.specs.declared.query.Query.{Query}
use Rattle.gx_ids.specs.declared.rid.Rid.{Rid}
use Rattle.gx_tree.specs.declared.row.KeyedRow.{KeyedRow}
use Rattle.gx_tree.specs.declared.schema.Kind.{Kind}
use Rattle.gx_tree.specs.declared.schema.Schema.{Schema}
use Rattle.gx_tree.specs.declared.slice.Slice.TheVariants as slice
use Rattle.gx_tree.specs.declared.value.Value.{Value}
use Rattle.gx_dsnap.specs.declared.snapshot.Snapshot.{Snapshot}
use Rattle.gx_meaning.specs.Kinds.{IsTyped}
use Rattle.gx_node.specs.Right.{IsRightFor}
use Rattle.gx_meaning.specs.Order.{rid_order}
use Rattle.gx_msg.specs.declared.item.Kept.{Kept}
use Rattle.gx_script.specs.declared.Script.{Script}
use Rattle.gx_store.specs.Journals.{kept_with}
use Rattle.gx_store.specs.Marks.{is_same_rid}
use Rattle.gx_store.specs.declared.mark.Mark.TheVariants.{Write}
use Rattle.gx_rules.specs.Fits.{is_rid_of, is_right_cond, is_right_on, is_right_row, kinds_in}
use Rattle.gx_rules.proofs.RightRows.{kinds_are}
use Rattle.gx_rules.specs.Segments.{Seg, Version, local_of}
use Rattle.gx_rules.specs.Shown.{counts, kept_one, last_images, row_in, rows_in, shown}
use Rattle.gx_rules.specs.Slices.{Moved, adds_version, inserted, inserts_row, starts_from, version, writes_row}
use Rattle.gx_slices.specs.Agrees.{is_right_image, is_right_version}
use Rattle.gx_slices.specs.Inserts.{IsRight}
use Rattle.gx_slices.specs.Picked.{AreTypedOn, IsTypedOn}
use Rattle.gx_slices.proofs.Gxids.{same_table}
use Rattle.gx_slices.proofs.Lists.{all_map, and_parts}
use Rattle.gx_slices.proofs.Owning.{takes_own-with}

-- THE ROWS THAT ARE SHOWN
module _ (tables : List Schema) (table : Table) where
  abbrev IsRightImage : Option (List Value) → Type 0
  IsRightImage image = IsTrue (is_right_image (slice_get tables table.0) image)

  all-counting : (q : Version → Bool) (vs : List Version) → AllByRecursion (λ v. IsTrue (is_right_version tables v)) vs → AllByRecursion (λ v. IsRightImage v.image) (filter (λ v. (eqb v.table.0 table.0) && q v) vs)
  all-counting q [] all = tt
  all-counting q (v ∷ vs) all = either (all-counting q vs all.1) (eqb v.table.0 table.0) refl (q v)
    where
      either : AllByRecursion (λ v. IsRightImage v.image) (filter (λ v. (eqb v.table.0 table.0) && q v) vs) → (t : Bool) → eqb v.table.0 table.0 ≡ t → (x : Bool) → AllByRecursion (λ v. IsRightImage v.image) (if t && x then v ∷ filter (λ v. (eqb v.table.0 table.0) && q v) vs else filter (λ v. (eqb v.table.0 table.0) && q v) vs)
      either more true e true = (subst (λ (u : Table). IsTrue (is_right_image (slice_get tables u.0) v.image)) (same_table v.table table e) all.0, more)
      either more true e false = more
      either more false e x = more

  all-kept_with : (new : Kept) (ks : List Kept) → IsRightImage new.image → AllByRecursion (λ k. IsRightImage k.image) ks → AllByRecursion (λ k. IsRightImage k.image) (kept_with new ks)
  all-kept_with new [] right all = (right, tt)
  all-kept_with new (k ∷ ks) right all = by_place (all-kept_with new ks right all.1) (is_same_rid k.rid new.rid) (is_lt (rid_order new.rid k.rid))
    where
      by_place : AllByRecursion (λ k. IsRightImage k.image) (kept_with new ks) → (b before : Bool) → AllByRecursion (λ k. IsRightImage k.image) (if b then new ∷ ks else (if before then new ∷ k ∷ ks else k ∷ kept_with new ks))
      by_place more true before = (right, all.1)
      by_place more false true = (right, all)
      by_place more false false = (all.0, more)

  all-fold : (vs : List Version) (ks : List Kept) → AllByRecursion (λ v. IsRightImage v.image) vs → AllByRecursion (λ k. IsRightImage k.image) ks → AllByRecursion (λ k. IsRightImage k.image) (fold kept_one ks vs)
  all-fold [] ks all kept = kept
  all-fold (v ∷ vs) ks all kept = all-fold vs (kept_one ks v) all.1 (all-kept_with (record { rid = v.rid; table = v.table; image = v.image }) ks all.0 kept)

  all-rows_in : (ks : List Kept) → AllByRecursion (λ k. IsRightImage k.image) ks → AllByRecursion (IsRight tables table) (rows_in ks)
  all-rows_in [] all = tt
  all-rows_in (k ∷ ks) all = either (all-rows_in ks all.1) k.image all.0
    where
      either : AllByRecursion (IsRight tables table) (rows_in ks) → (image : Option (List Value)) → IsRightImage image → AllByRecursion (IsRight tables table) (row_in k.rid image ++ rows_in ks)
      either more None right = more
      either more (Some row) right = (right, more)

  pub right-shown : (s : Seg) (snap : Snapshot) (g : Gxid) (c : Cid) → All (λ v. IsTrue (is_right_version tables v)) s.versions → AllByRecursion (IsRight tables table) (shown s snap g c table)
  right-shown s snap g c typed =
      all-rows_in
      (last_images (filter (λ v. (eqb v.table.0 table.0) && counts s snap g c v) s.versions))
      (all-fold (filter (λ v. (eqb v.table.0 table.0) && counts s snap g c v) s.versions) [] (all-counting (counts s snap g c) s.versions (recursion_from_All (λ v. IsTrue (is_right_version tables v)) s.versions typed)) tt)

  pub typed_by : (schema : Schema) → slice_get tables table.0 ≡ Some schema → (cond : Option Cond) → is_right_cond (kinds_in schema) cond ≡ true → (rows : List KeyedRow) → AllByRecursion (IsRight tables table) rows → AreTypedOn cond rows
  typed_by schema at None e rows all = tt
  typed_by schema at (Some cond) e rows all = all_map (λ row right. typed row (subst (λ (o : Option Schema). IsTrue (is_right_image o (Some row.row))) at right)) rows all
    where
      typed : (row : KeyedRow) → is_right_row (kinds_in schema) row.row ≡ true → IsTypedOn cond row
      typed row right = subst (λ (kinds : List Kind). IsTyped kinds cond) (sym (kinds_are (kinds_in schema) row.row right)) e

-- A SLICE THAT IS RIGHT
abbrev pub some_script : List Schema → Script
some_script tables = record { segments = 0; detector = false; tables = tables; sessions = []; lines = []; faults = []; groups = []; restarts = [] }

module _ (tables : List Schema) (g : Gxid) (c : Cid) where
  -- a query's condition has a meaning on rows of its table
  pub typed-select : (query : Query) → IsRightFor tables g c (slice.Select query) true → (rows : List KeyedRow) → AllByRecursion (IsRight tables query.table) rows → AreTypedOn query.cond rows
  typed-select query right rows all = either (slice_get tables query.table.0) refl (right (some_script tables) refl)
    where
      either : (o : Option Schema) → slice_get tables query.table.0 ≡ o → true ≡ is_right_on g c o (slice.Select query) → AreTypedOn query.cond rows
      either None at e = absurd (cc)
      either (Some schema) at e = typed_by tables query.table schema at query.cond (and_parts (is_right_cond (kinds_in schema) query.cond) _ (sym e)).0 rows all

  -- an INSERT's rows are of its table's kinds
  all-list : (table : Table) (schema : Schema) → slice_get tables table.0 ≡ Some schema → (rows : List KeyedRow) → list_all (λ row. is_rid_of g c row.rid && is_right_row (kinds_in schema) row.row) rows ≡ true → AllByRecursion (IsRight tables table) rows
  all-list table schema at [] e = tt
  all-list table schema at (r ∷ rs) e =
      let parts = and_parts (is_rid_of g c r.rid && is_right_row (kinds_in schema) r.row) (list_all (λ row. is_rid_of g c row.rid && is_right_row (kinds_in schema) row.row) rs) e in
      let row = and_parts (is_rid_of g c r.rid) (is_right_row (kinds_in schema) r.row) parts.0 in
      (subst (λ (o : Option Schema). IsTrue (is_right_image o (Some r.row))) (sym at) row.1, all-list table schema at rs parts.1)

  pub right-insert : (table : Table) (rows : List KeyedRow) → IsRightFor tables g c (slice.Insert table rows) true → AllByRecursion (IsRight tables table) rows
  right-insert table rows right = either (slice_get tables table.0) refl (right (some_script tables) refl)
    where
      either : (o : Option Schema) → slice_get tables table.0 ≡ o → true ≡ is_right_on g c o (slice.Insert table rows) → AllByRecursion (IsRight tables table) rows
      either None at e = absurd (cc)
      either (Some schema) at e = all-list table schema at rows (sym e)

-- with a row that is written
module _ (tables : List Schema) (g : Gxid) (c : Cid) (table : Table) where
  abbrev IsTypedVersion : Version → Type 0
  IsTypedVersion v = IsTrue (is_right_version tables v)

  pub typed-written : (m : Moved) (rid : Rid) (image : Option (List Value)) → All IsTypedVersion m.seg.versions → IsTrue (is_right_image (slice_get tables table.0) image) → All IsTypedVersion (writes_row g c table m rid image).seg.versions
  typed-written m rid image typed right =
      let p = (local_of m.seg g).phase in
      let v = version g c table rid image in
      subst (λ (n : Moved). All IsTypedVersion n.seg.versions) (sym (takes_own-with g p (record { seg = adds_version m.seg g v; marks = m.marks ++ Write g c m.seg.node table rid image ∷ [] })))
      (All-push IsTypedVersion m.seg.versions v typed right)

  -- with the rows of an INSERT
  typed-moved : (rows : List KeyedRow) (m : Moved) → All IsTypedVersion m.seg.versions → AllByRecursion (IsRight tables table) rows → All IsTypedVersion (fold (inserts_row g c table) m rows).seg.versions
  typed-moved [] m typed right = typed
  typed-moved (row ∷ rows) m typed right = typed-moved rows (inserts_row g c table m row) (typed-written m row.rid (Some row.row) typed right.0) right.1

  pub typed-inserted : (s : Seg) (rows : List KeyedRow) → All IsTypedVersion s.versions → AllByRecursion (IsRight tables table) rows → All IsTypedVersion (inserted s g c table rows).seg.versions
  typed-inserted s rows typed right = typed-moved rows (starts_from s) typed right
