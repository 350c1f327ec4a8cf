-- Rows that have a value in the distribution column, and keep it.
use Rattle.std.specs.Prelude.{◌≡◌, ℕ, List, [], Some, slice_get}
use Rattle.gx_ids.specs.declared.ids.Cid.{Cid}
use Rattle.gx_ids.specs.declared.ids.Gxid.{Gxid}
use Rattle.gx_ids.specs.declared.ids.Table.{Table}
use Rattle.gx_tree.specs.declared.expr.Expr.{Expr}
use Rattle.gx_tree.specs.declared.stmt.Stmt.TheVariants as stmt
use Rattle.gx_meaning.specs.Constants.{HasKey}
use Rattle.gx_script.specs.declared.Script.{Script}
use Rattle.gx_store.specs.declared.mark.Mark.{Mark}
use Rattle.gx_store.specs.Writes.{dist_of}
use Rattle.gx_law_order.specs.Scanned.{stmt_of_command}
use Rattle.gx_law_writes.specs.Homes.{KeepsItsKey}

-- each tuple of an INSERT that is a transaction's command
abbrev pub AreInsertsKeyed : Script → Type 0
AreInsertsKeyed script =
    (marks : List Mark) (g : Gxid) (c : Cid) (table : Table) (tuples : List (List Expr)) → stmt_of_command script marks g c ≡ Some (stmt.Insert table tuples)
    → (k : ℕ) (tuple : List Expr) → slice_get tuples k ≡ Some tuple → HasKey (dist_of script.tables table.0) tuple

-- no INSERT is without a tuple
abbrev pub AreInsertsFilled : Script → Type 0
AreInsertsFilled script = (marks : List Mark) (g : Gxid) (c : Cid) (table : Table) → stmt_of_command script marks g c ≡ Some (stmt.Insert table []) → ⊥

-- a row is inserted with a value in the distribution column, and keeps it
pub record AreRowsKeyed (script : Script) : Type 0 where
  pub inserted : AreInsertsKeyed script
  pub kept : (table : Table) → KeepsItsKey script table
