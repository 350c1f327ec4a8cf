-- What an EXEC is of: its transaction's command, of the line under way, by the plan and the snapshot of that command.
use Rattle.std.specs.Prelude.{◌≡◌, ℕ, ◌≤◌, List, [], ◌∷◌, slice_get, Some, None, Ok, Contains}
use Rattle.std.specs.declared.option.Option.{Option}
use Rattle.gx_ids.specs.declared.ids.Cid.{Cid}
use Rattle.gx_ids.specs.declared.ids.Gxid.{Gxid}
use Rattle.gx_ids.specs.declared.ids.Node.{Node}
use Rattle.gx_ids.specs.declared.ids.SessionId.{SessionId}
use Rattle.gx_tree.specs.declared.slice.Slice.{Slice}
use Rattle.gx_tree.specs.declared.stmt.Level.{Level}
use Rattle.gx_tree.specs.declared.stmt.Level.TheVariants.{ReadCommitted}
use Rattle.gx_tree.specs.declared.stmt.Stmt.{Stmt}
use Rattle.gx_tree.specs.declared.stmt.Stmt.TheVariants as stmt
use Rattle.gx_dsnap.specs.declared.snapshot.Snapshot.{Snapshot}
use Rattle.gx_msg.specs.declared.message.Message.{Message}
use Rattle.gx_msg.specs.declared.message.Message.TheVariants as message
use Rattle.gx_meaning.specs.Plan.{plan_of}
use Rattle.gx_meaning.specs.declared.piece.Piece.{Piece}
use Rattle.gx_script.specs.declared.Script.{Script}
use Rattle.gx_store.specs.declared.mark.Mark.{Mark}
use Rattle.gx_store.specs.declared.mark.Mark.TheVariants as mark
use Rattle.gx_store.specs.Commands.{Serves}
use Rattle.gx_store.specs.Lines.{stmt_of}
use Rattle.gx_store.specs.Points.{marks_in}
use Rattle.gx_store.specs.Refusals.{the_coordinator}
use Rattle.gx_store.specs.Writes.{dist_of}
use Rattle.gx_rules.specs.AtCoordinator.{table_of}
use Rattle.gx_rules.specs.Machine.{Letter, World}
use Rattle.gx_law_order.specs.Scanned.{began_from, stmt_of_command}

-- the snapshot was taken for a command of the transaction that it serves with this one
pub record IsServed (marks : List Mark) (level : Level) (g : Gxid) (c : Cid) (snapshot : Snapshot) : Type 0 where
  pub place : ℕ
  pub d : Cid
  pub taken : slice_get marks place ≡ Some (mark.Snap g d snapshot)
  pub serves : Serves level d c

-- LOCK TABLE reads nothing
abbrev pub IsReadBy : List Mark → Level → Gxid → Cid → Stmt → Option Snapshot → Type 0
IsReadBy marks level g c (stmt.Lock table mode) snapshot = snapshot ≡ None
IsReadBy marks level g c line snapshot = (x : Snapshot) × (snapshot ≡ Some x) × IsServed marks level g c x

-- the level of the transaction that a line began
abbrev pub level_by : Option Stmt → Level
level_by (Some (stmt.Begin level)) = level
level_by _ = ReadCommitted

abbrev pub level_of_began : Script → Option (SessionId × ℕ) → Level
level_of_began script None = ReadCommitted
level_of_began script (Some began) = level_by (stmt_of began.0 began.1 script.lines)

-- An EXEC to a node: its statement is that of the transaction's command of this number, at the transaction's level; its slice
-- is that node's piece of the statement's plan, and its snapshot was taken for the command; a LOCK TABLE's has none.
pub record IsOrder (script : Script) (marks : List Mark) (node : Node) (g : Gxid) (c : Cid) (level : Level) (snapshot : Option Snapshot) (slice : Slice) : Type 0 where
  pub line : Stmt
  pub of : stmt_of_command script marks g c ≡ Some line
  pub level_is : level ≡ level_of_began script (began_from [] marks g)
  pub counted : 1 ≤ c.0
  pub pieces : List Piece
  pub plan : plan_of script.segments (dist_of script.tables (table_of line)) g c line ≡ Ok pieces
  pub among : Contains pieces (record { node = node; slice = slice })
  pub read : IsReadBy marks level g c line snapshot

abbrev pub IsOrderOf : Script → List Mark → Node → Message → Type 0
IsOrderOf script marks node (message.Exec g c level snapshot horizon slice) = IsOrder script marks node g c level snapshot slice
IsOrderOf script marks node _ = Unit {0}

-- each EXEC that the coordinator ever sent is so
abbrev pub AreOrders : Script → List Mark → List Letter → Type 0
AreOrders script marks [] = Unit {0}
AreOrders script marks (l ∷ ls) = (l.from ≡ the_coordinator → IsOrderOf script marks l.to l.envelope.message) × AreOrders script marks ls

abbrev pub AreOrdersOf : Script → World → Type 0
AreOrdersOf script w = AreOrders script (marks_in w.steps) w.sent
