-- The test of a late write decides the definition.
use Rattle.std.proofs.Common.{◌≡◌, ◌==◌, true, List, Option, Some, sym}
use Rattle.std.proofs.lemmas.Bool.{and_from}
use Rattle.gx_ids.specs.declared.ids.Gxid.{Gxid}
use Rattle.gx_ids.specs.declared.ids.Cid.{Cid}
use Rattle.gx_ids.specs.declared.ids.Node.{Node}
use Rattle.gx_ids.specs.declared.ids.Table.{Table}
use Rattle.gx_ids.specs.declared.rid.Rid.{Rid}
use Rattle.gx_lemmas.proofs.Tests.{and-first, and-second}
use Rattle.gx_script.specs.declared.Script.{Script}
use Rattle.gx_tree.specs.declared.stmt.Stmt.{Stmt}
use Rattle.gx_tree.specs.declared.stmt.Stmt.TheVariants.{Insert, Update, Delete}
use Rattle.gx_tree.specs.declared.value.Value.{Value}
use Rattle.gx_store.specs.declared.mark.Mark.{Mark}
use Rattle.gx_store.specs.Marks.{node_of, row_table}
use Rattle.gx_store.specs.Writes.{IsLateWriteOf}
use Rattle.gx_legal.specs.Late.{is_late, is_written_at, stands_in}
use Rattle.gx_legal.proofs.Decided.{no_more}
use Rattle.gx_legal.proofs.Insertions.{inserted-is, is-inserted}
use Rattle.gx_legal.proofs.Lateness.{is-within, is-written, same-table, table-same, within-is, written-is}

module _ (script : Script) (marks : List Mark) (g : Gxid) (c : Cid) where
  abbrev Stands : Table → Table → Node → Rid → Type 0
  Stands table t node rid = (t ≡ table) × (node_of marks rid ≡ Some node) × (row_table marks rid ≡ Some table)

  stands-is : (table t : Table) (node : Node) (rid : Rid) → stands_in marks table node t rid ≡ true → Stands table t node rid
  stands-is table t node rid e =
      let rest = and-second (table.0 == t.0) _ e in (
        sym (table-same table t (and-first (table.0 == t.0) _ e)),
        written-is (node_of marks rid) node (and-first (is_written_at (node_of marks rid) node) _ rest),
        within-is (row_table marks rid) table (and-second (is_written_at (node_of marks rid) node) _ rest),
      )

  is-standing : (table t : Table) (node : Node) (rid : Rid) → Stands table t node rid → stands_in marks table node t rid ≡ true
  is-standing table t node rid (same, there, within) =
      and_from (table.0 == t.0) _ (same-table table t same) (and_from (is_written_at (node_of marks rid) node) _ (is-written (node_of marks rid) node there) (is-within (row_table marks rid) table within))

  pub late-is : (stmt : Stmt) (node : Node) (t : Table) (rid : Rid) (image : Option (List Value)) → is_late script marks g c stmt node t rid image ≡ true → IsLateWriteOf script marks g c stmt node t rid image
  late-is (Insert table tuples) node t rid image e =
      (sym (table-same table t (and-first (table.0 == t.0) _ e)), inserted-is script marks g c table tuples node rid image (and-second (table.0 == t.0) _ e))
  late-is (Update table assigns cond) node t rid image e = stands-is table t node rid e
  late-is (Delete table cond) node t rid image e = stands-is table t node rid e
  late-is _ node t rid image e = no_more _ e

  pub is-late : (stmt : Stmt) (node : Node) (t : Table) (rid : Rid) (image : Option (List Value)) → IsLateWriteOf script marks g c stmt node t rid image → is_late script marks g c stmt node t rid image ≡ true
  is-late (Insert table tuples) node t rid image (same, inserted) = and_from (table.0 == t.0) _ (same-table table t same) (is-inserted script marks g c table tuples node rid image inserted)
  is-late (Update table assigns cond) node t rid image e = is-standing table t node rid e
  is-late (Delete table cond) node t rid image e = is-standing table t node rid e
  is-late _ node t rid image e = absurd e
