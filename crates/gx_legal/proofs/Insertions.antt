-- The tests of writes decide the definitions: INSERT, and all statements.
use Rattle.std.proofs.Common.{◌≡◌, ◌∙◌, ℕ, zero, suc, ◌==◌, ◌-◌, true, false, not, List, [], ◌∷◌, slice_get, Option, Some, None, Result, Ok, Err, refl, sym, ap}
use Rattle.std.proofs.lemmas.Bool.{and_from, not-true, not_from_false}
use Rattle.gx_ids.specs.declared.ids.Gxid.{Gxid}
use Rattle.gx_ids.specs.declared.ids.Cid.{Cid}
use Rattle.gx_ids.specs.declared.ids.Node.{Node}
use Rattle.gx_ids.specs.declared.ids.Table.{Table}
use Rattle.gx_ids.specs.declared.rid.Rid.{Rid}
use Rattle.gx_lemmas.proofs.Numbers.{eqb-of, same-of}
use Rattle.gx_lemmas.proofs.Tests.{and-first, and-second}
use Rattle.gx_tree.specs.declared.expr.Expr.{Expr}
use Rattle.gx_tree.specs.declared.schema.Dist.{Dist}
use Rattle.gx_tree.specs.declared.schema.Schema.{Schema}
use Rattle.gx_tree.specs.declared.stmt.Level.{Level}
use Rattle.gx_tree.specs.declared.stmt.Stmt.{Stmt}
use Rattle.gx_tree.specs.declared.stmt.Stmt.TheVariants.{Insert, Update, Delete}
use Rattle.gx_tree.specs.declared.value.Value.{Value}
use Rattle.gx_meaning.specs.Constants.{values_of}
use Rattle.gx_meaning.specs.Place.{row_place}
use Rattle.gx_meaning.specs.declared.fault.ArithFault.{ArithFault}
use Rattle.gx_script.specs.declared.Script.{Script}
use Rattle.gx_store.specs.declared.mark.Mark.{Mark}
use Rattle.gx_store.specs.Marks.{is_processed, is_same_gxid, is_written, node_of}
use Rattle.gx_store.specs.Writes.{IsInserted, IsWriteOf, dist_of}
use Rattle.gx_legal.specs.Inserted.{dist_in, is_inserted, is_own, is_row_of, is_tuple_row}
use Rattle.gx_legal.specs.Late.{is_written_at}
use Rattle.gx_legal.specs.Writes.{is_next, is_write}
use Rattle.gx_legal.proofs.Changes.{deleted-is, is-deleted, is-updated, updated-is}
use Rattle.gx_legal.proofs.Decided.{no_more}
use Rattle.gx_legal.proofs.Equal.{images-decided}
use Rattle.gx_legal.proofs.Lateness.{at-least, is-at-least, is-written, same-table, table-same, written-is}
use Rattle.gx_legal.proofs.Snapshots.{cid-same, gxid-same}

-- a table's distribution, by its place
pub dist-at : (tables : List Schema) (k : ℕ) → dist_of tables k ≡ dist_in (slice_get tables k)
dist-at [] k = refl
dist-at (s ∷ ss) zero = refl
dist-at (s ∷ ss) (suc k) = dist-at ss k

record RowOf (segments : ℕ) (dist : Dist) (node : Node) (rid : Rid) (image : Option (List Value)) (o : Option (List Expr)) : Type 0 where
  tuple : List Expr
  among : o ≡ Some tuple
  values : List Value
  constants : values_of tuple ≡ Ok values
  written : image ≡ Some values
  place : node.0 ≡ row_place segments dist values rid

module _ (segments : ℕ) (dist : Dist) (node : Node) (rid : Rid) (image : Option (List Value)) where
  by-values : (tuple : List Expr) (o : Result (List Value) ArithFault) → values_of tuple ≡ o → is_row_of segments dist node rid image o ≡ true → RowOf segments dist node rid image (Some tuple)
  by-values tuple (Ok values) is e = record {
    tuple = tuple;
    among = refl;
    values = values;
    constants = is;
    written = (images-decided image (Some values)).0 (and-second (node.0 == row_place segments dist values rid) _ e);
    place = same-of node.0 (row_place segments dist values rid) (and-first (node.0 == row_place segments dist values rid) _ e);
  }
  by-values tuple (Err fault) is e = no_more _ e

  row-of : (o : Option (List Expr)) → is_tuple_row segments dist node rid image o ≡ true → RowOf segments dist node rid image o
  row-of None e = no_more _ e
  row-of (Some tuple) e = by-values tuple (values_of tuple) refl e

  of-row : (o : Option (List Expr)) → RowOf segments dist node rid image o → is_tuple_row segments dist node rid image o ≡ true
  of-row o r =
      ap (is_tuple_row segments dist node rid image) r.among
      ∙ ap (is_row_of segments dist node rid image) r.constants
      ∙ and_from (node.0 == row_place segments dist r.values rid) _ (eqb-of node.0 (row_place segments dist r.values rid) r.place) ((images-decided image (Some r.values)).1 r.written)

module _ (script : Script) (marks : List Mark) (g : Gxid) (c : Cid) (table : Table) (tuples : List (List Expr)) (node : Node) (rid : Rid) (image : Option (List Value)) where
  abbrev dist : Dist
  dist = dist_of script.tables table.0

  abbrev tuple-there : Option (List Expr)
  tuple-there = slice_get tuples (rid.ordinal - 1)

  pub inserted-is : is_inserted script marks g c table tuples node rid image ≡ true → IsInserted script marks g c table tuples node rid image
  inserted-is e =
      let own = and-first (is_own g c rid) _ e in
      let rest = and-second (is_own g c rid) _ e in
      let more = and-second (is_same_gxid rid.gxid g) _ own in
      let row = row-of script.segments dist node rid image tuple-there (and-second (not (is_written marks rid)) _ rest) in
      record {
        own = (gxid-same rid.gxid g (and-first (is_same_gxid rid.gxid g) _ own), cid-same rid.cid c (and-first (rid.cid.0 == c.0) _ more));
        counted = at-least 1 rid.ordinal (and-second (rid.cid.0 == c.0) _ more);
        tuple = row.tuple;
        among = row.among;
        values = row.values;
        constants = row.constants;
        written = row.written;
        place = row.place;
        once = not-true _ (and-first (not (is_written marks rid)) _ rest);
      }

  pub is-inserted : IsInserted script marks g c table tuples node rid image → is_inserted script marks g c table tuples node rid image ≡ true
  is-inserted i =
      let row : RowOf script.segments dist node rid image tuple-there = record { tuple = i.tuple; among = i.among; values = i.values; constants = i.constants; written = i.written; place = i.place } in
      let own = and_from (is_same_gxid rid.gxid g) _ (eqb-of rid.gxid.0 g.0 (ap (λ (x : Gxid). x.0) i.own.0))
      (and_from (rid.cid.0 == c.0) _ (eqb-of rid.cid.0 c.0 (ap (λ (x : Cid). x.0) i.own.1)) (is-at-least 1 rid.ordinal i.counted)) in
      and_from (is_own g c rid) _ own (and_from (not (is_written marks rid)) _ (not_from_false _ i.once) (of-row script.segments dist node rid image tuple-there row))

module _ (marks : List Mark) (g : Gxid) (c : Cid) (table t : Table) (node : Node) (rid : Rid) where
  abbrev Next : Type 0
  Next = (t ≡ table) × (node_of marks rid ≡ Some node) × (is_processed marks g c rid ≡ false)

  next-is : is_next marks g c table node t rid ≡ true → Next
  next-is e =
      let rest = and-second (table.0 == t.0) _ e in
      (sym (table-same table t (and-first (table.0 == t.0) _ e)), written-is (node_of marks rid) node (and-first (is_written_at (node_of marks rid) node) _ rest), not-true _ (and-second (is_written_at (node_of marks rid) node) _ rest))

  is-next : Next → is_next marks g c table node t rid ≡ true
  is-next (same, there, once) =
      and_from (table.0 == t.0) _ (same-table table t same) (and_from (is_written_at (node_of marks rid) node) _ (is-written (node_of marks rid) node there) (not_from_false _ once))

module _ (script : Script) (marks : List Mark) (level : Level) (g : Gxid) (c : Cid) where
  pub write-of : (stmt : Stmt) (node : Node) (t : Table) (rid : Rid) (image : Option (List Value)) → is_write script marks level g c stmt node t rid image ≡ true → IsWriteOf script marks level g c stmt node t rid image
  write-of (Insert table tuples) node t rid image e =
      (sym (table-same table t (and-first (table.0 == t.0) _ e)), inserted-is script marks g c table tuples node rid image (and-second (table.0 == t.0) _ e))
  write-of (Update table assigns cond) node t rid image e =
      let next = next-is marks g c table t node rid (and-first (is_next marks g c table node t rid) _ e) in
      (next.0, next.1, next.2, updated-is marks level g c table cond rid assigns image (and-second (is_next marks g c table node t rid) _ e))
  write-of (Delete table cond) node t rid image e =
      let next = next-is marks g c table t node rid (and-first (is_next marks g c table node t rid) _ e) in
      (next.0, next.1, next.2, deleted-is marks level g c table cond rid image (and-second (is_next marks g c table node t rid) _ e))
  write-of _ node t rid image e = no_more _ e

  pub of-write : (stmt : Stmt) (node : Node) (t : Table) (rid : Rid) (image : Option (List Value)) → IsWriteOf script marks level g c stmt node t rid image → is_write script marks level g c stmt node t rid image ≡ true
  of-write (Insert table tuples) node t rid image (same, inserted) = and_from (table.0 == t.0) _ (same-table table t same) (is-inserted script marks g c table tuples node rid image inserted)
  of-write (Update table assigns cond) node t rid image (same, there, once, updated) =
      and_from (is_next marks g c table node t rid) _ (is-next marks g c table t node rid (same, there, once)) (is-updated marks level g c table cond rid assigns image updated)
  of-write (Delete table cond) node t rid image (same, there, once, deleted) =
      and_from (is_next marks g c table node t rid) _ (is-next marks g c table t node rid (same, there, once)) (is-deleted marks level g c table cond rid image deleted)
  of-write _ node t rid image e = absurd e
