-- Where rows stand: each at the node where it was inserted, whatever is written to it later.
use Rattle.std.specs.Prelude.{◌≡◌, ◌≤◌, ◌-◌, false, List, [], ◌∷◌, ◌++◌, Some, None, Ok, slice_get}
use Rattle.std.specs.declared.option.Option.{Option}
use Rattle.gx_ids.specs.declared.ids.Cid.{Cid}
use Rattle.gx_ids.specs.declared.ids.Gxid.{Gxid}
use Rattle.gx_ids.specs.declared.ids.Node.{Node}
use Rattle.gx_ids.specs.declared.ids.Table.{Table}
use Rattle.gx_ids.specs.declared.rid.Rid.{Rid}
use Rattle.gx_tree.specs.declared.cond.Cond.{Cond}
use Rattle.gx_tree.specs.declared.expr.Expr.{Expr}
use Rattle.gx_tree.specs.declared.schema.Dist.{Dist}
use Rattle.gx_tree.specs.declared.schema.Dist.TheVariants.{By, Randomly}
use Rattle.gx_tree.specs.declared.stmt.Assign.{Assign}
use Rattle.gx_tree.specs.declared.stmt.Stmt.TheVariants as stmt
use Rattle.gx_tree.specs.declared.value.Value.{Value}
use Rattle.gx_meaning.specs.Constants.{values_of}
use Rattle.gx_meaning.specs.Place.{row_place}
use Rattle.gx_meaning.specs.Statements.{KeepsKey as LeavesKey}
use Rattle.gx_script.specs.declared.Script.{Script}
use Rattle.gx_store.specs.declared.mark.Mark.{Mark}
use Rattle.gx_store.specs.declared.mark.Mark.TheVariants as mark
use Rattle.gx_store.specs.Marks.{is_written}
use Rattle.gx_store.specs.Writes.{dist_of}
use Rattle.gx_law_order.specs.Scanned.{stmt_of_command}

-- these are the values of the row's tuple, in the INSERT that the row's identity names
pub record IsRowOf (script : Script) (marks : List Mark) (table : Table) (rid : Rid) (values : List Value) : Type 0 where
  pub tuples : List (List Expr)
  pub of : stmt_of_command script marks rid.gxid rid.cid ≡ Some (stmt.Insert table tuples)
  pub counted : 1 ≤ rid.ordinal
  pub tuple : List Expr
  pub among : slice_get tuples (rid.ordinal - 1) ≡ Some tuple
  pub constants : values_of tuple ≡ Ok values

-- both have the same in the distribution column, where there is one
abbrev pub IsSameKey : Dist → List Value → List Value → Type 0
IsSameKey (By column) old new = slice_get new column ≡ slice_get old column
IsSameKey Randomly old new = Unit {0}

-- the image is a deleted row's, or has the same in the distribution column as what was inserted
abbrev pub KeepsKey : Dist → List Value → Option (List Value) → Type 0
KeepsKey dist inserted None = Unit {0}
KeepsKey dist inserted (Some row) = IsSameKey dist inserted row

-- no UPDATE of the table that is a transaction's command sets the distribution column; the language has none that does
abbrev pub KeepsItsKey : Script → Table → Type 0
KeepsItsKey script table =
    (marks : List Mark) (g : Gxid) (c : Cid) (assigns : List Assign) (cond : Option Cond)
    → stmt_of_command script marks g c ≡ Some (stmt.Update table assigns cond) → LeavesKey (dist_of script.tables table.0) assigns

-- a write of the row, with this image, stands where the row was inserted
pub record IsPlaced (script : Script) (marks : List Mark) (node : Node) (table : Table) (rid : Rid) (image : Option (List Value)) : Type 0 where
  pub values : List Value
  pub row_of : IsRowOf script marks table rid values
  pub place : node.0 ≡ row_place script.segments (dist_of script.tables table.0) values rid
  pub key : KeepsItsKey script table → KeepsKey (dist_of script.tables table.0) values image

abbrev pub IsPlacedMark : Script → List Mark → Mark → Type 0
IsPlacedMark script marks (mark.Write g c node table rid image) = IsPlaced script marks node table rid image
IsPlacedMark script marks _ = Unit {0}

-- the row's INSERT itself writes it, with the values of its tuple
pub record IsInsertsWrite (script : Script) (marks : List Mark) (g : Gxid) (c : Cid) (table : Table) (rid : Rid) (image : Option (List Value)) : Type 0 where
  pub own : (rid.gxid ≡ g) × (rid.cid ≡ c)
  pub values : List Value
  pub row_of : IsRowOf script marks table rid values
  pub written : image ≡ Some values

-- one of the marks, which has these before it: each write stands where its row was inserted, and a row's first is its INSERT's
abbrev pub IsHomeMark : Script → List Mark → List Mark → Mark → Type 0
IsHomeMark script marks before (mark.Write g c node table rid image) =
    IsPlaced script marks node table rid image × (is_written before rid ≡ false → IsInsertsWrite script marks g c table rid image)
IsHomeMark script marks before _ = Unit {0}

-- each of these, behind those before
abbrev pub AreRowsHome : Script → List Mark → List Mark → List Mark → Type 0
AreRowsHome script marks before [] = Unit {0}
AreRowsHome script marks before (m ∷ ms) = IsHomeMark script marks before m × AreRowsHome script marks (before ++ m ∷ []) ms
