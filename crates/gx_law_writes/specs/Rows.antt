-- The rows of an INSERT, and which of them go to a segment.
use Rattle.std.specs.Prelude.{◌≡◌, ℕ, ◌+◌, Bool, List, [], ◌∷◌, Some, Ok}
use Rattle.gx_ids.specs.declared.ids.Cid.{Cid}
use Rattle.gx_ids.specs.declared.ids.Gxid.{Gxid}
use Rattle.gx_ids.specs.declared.ids.Node.{Node}
use Rattle.gx_ids.specs.declared.ids.Table.{Table}
use Rattle.gx_ids.specs.declared.rid.Rid.{Rid}
use Rattle.gx_tree.specs.declared.expr.Expr.{Expr}
use Rattle.gx_tree.specs.declared.row.KeyedRow.{KeyedRow}
use Rattle.gx_tree.specs.declared.slice.Slice.{Slice}
use Rattle.gx_tree.specs.declared.slice.Slice.TheVariants as slice
use Rattle.gx_tree.specs.declared.stmt.Stmt.TheVariants as stmt
use Rattle.gx_tree.specs.declared.value.Value.{Value}
use Rattle.gx_msg.specs.declared.message.Message.{Message}
use Rattle.gx_msg.specs.declared.message.Message.TheVariants as message
use Rattle.gx_meaning.specs.Constants.{keyed, rows_of, values_of}
use Rattle.gx_meaning.specs.Plan.{rows_at}
use Rattle.gx_script.specs.declared.Script.{Script}
use Rattle.gx_store.specs.declared.mark.Mark.{Mark}
use Rattle.gx_store.specs.Marks.{is_processed}
use Rattle.gx_store.specs.Points.{marks_in}
use Rattle.gx_store.specs.Refusals.{the_coordinator}
use Rattle.gx_store.specs.Writes.{dist_of}
use Rattle.gx_rules.specs.Machine.{Letter, World}
use Rattle.gx_law_order.specs.Scanned.{stmt_of_command}

-- the rows have the values of the tuples, one each, with ordinals from this one on
abbrev pub AreRowsOf : Gxid → Cid → ℕ → List (List Expr) → List KeyedRow → Type 0
AreRowsOf g c ordinal [] [] = Unit {0}
AreRowsOf g c ordinal (tuple ∷ tuples) (row ∷ rows) =
    (values : List Value) × (values_of tuple ≡ Ok values) × (row ≡ keyed g c ordinal values) × AreRowsOf g c (ordinal + 1) tuples rows
AreRowsOf g c ordinal _ _ = ⊥

-- the command whose row this is, by the row's identity, has written it
abbrev pub is_own_written : List Mark → Rid → Bool
is_own_written marks rid = is_processed marks rid.gxid rid.cid rid

-- these are the rows of the command that are placed at the segment
pub record IsRowPiece (script : Script) (marks : List Mark) (node : Node) (g : Gxid) (c : Cid) (table : Table) (rows : List KeyedRow) : Type 0 where
  pub tuples : List (List Expr)
  pub of : stmt_of_command script marks g c ≡ Some (stmt.Insert table tuples)
  pub all : List KeyedRow
  pub planned : rows_of g c tuples ≡ Ok all
  pub here : rows ≡ rows_at script.segments (dist_of script.tables table.0) all node.0

abbrev pub IsSlicePiece : Script → List Mark → Node → Gxid → Cid → Slice → Type 0
IsSlicePiece script marks node g c (slice.Insert table rows) = IsRowPiece script marks node g c table rows
IsSlicePiece script marks node g c _ = Unit {0}

abbrev pub IsPiece : Script → List Mark → Node → Message → Type 0
IsPiece script marks node (message.Exec g c level snapshot horizon slice) = IsSlicePiece script marks node g c slice
IsPiece script marks node _ = Unit {0}

-- each EXEC that the coordinator ever sent is so
abbrev pub ArePieces : Script → List Mark → List Letter → Type 0
ArePieces script marks [] = Unit {0}
ArePieces script marks (l ∷ ls) = (l.from ≡ the_coordinator → IsPiece script marks l.to l.envelope.message) × ArePieces script marks ls

abbrev pub ArePiecesOf : Script → World → Type 0
ArePiecesOf script w = ArePieces script (marks_in w.steps) w.sent
