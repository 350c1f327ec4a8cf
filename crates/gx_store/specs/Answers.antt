-- What the answer to a line says, by where its session stands.
use Rattle.std.specs.Prelude.{◌≡◌, ℕ, ◌≤◌, Bool, true, false, List, length, Some, Ok, All}
use Rattle.std.specs.declared.option.Option.{Option}
use Rattle.gx_ids.specs.declared.ids.Gxid.{Gxid}
use Rattle.gx_ids.specs.declared.ids.Cid.{Cid}
use Rattle.gx_ids.specs.declared.ids.Node.{Node}
use Rattle.gx_ids.specs.declared.ids.SessionId.{SessionId}
use Rattle.gx_ids.specs.declared.ids.Table.{Table}
use Rattle.gx_ids.specs.declared.rid.Rid.{Rid}
use Rattle.gx_tree.specs.declared.cell.Cell.{Cell}
use Rattle.gx_tree.specs.declared.cond.Cond.{Cond}
use Rattle.gx_tree.specs.declared.expr.Expr.{Expr}
use Rattle.gx_tree.specs.declared.query.Query.{Query}
use Rattle.gx_tree.specs.declared.row.KeyedRow.{KeyedRow}
use Rattle.gx_tree.specs.declared.stmt.Level.{Level}
use Rattle.gx_tree.specs.declared.stmt.Stmt.{Stmt}
use Rattle.gx_tree.specs.declared.stmt.Stmt.TheVariants as stmt
use Rattle.gx_tree.specs.declared.value.Value.{Value}
use Rattle.gx_meaning.specs.Answer.{answer_of}
use Rattle.gx_modes.specs.declared.modes.Mode.{Mode}
use Rattle.gx_meaning.specs.Constants.{values_of}
use Rattle.gx_script.specs.declared.Script.{Script}
use Rattle.gx_waits.specs.declared.object.Object.TheVariants.{Relation}
use Rattle.gx_store.specs.declared.answer.Refused.TheVariants.{InFailedBlock, NotInBlock}
use Rattle.gx_store.specs.declared.answer.StmtAnswer.{StmtAnswer}
use Rattle.gx_store.specs.declared.answer.StmtAnswer.TheVariants.{Begin, Commit, Rollback, Locked, Inserted, Updated, Deleted, Rows, Refused}
use Rattle.gx_store.specs.declared.mark.Mark.{Mark}
use Rattle.gx_store.specs.Commands.{Sees, condition_on, has_own_snapshot}
use Rattle.gx_store.specs.Lines.{BlockState, Outside, InBlock, Failed, cid_of, is_command, level_of, transaction_of}
use Rattle.gx_store.specs.Marks.{is_aborted, is_begun, is_committed, is_ended, is_processed, write_count}
use Rattle.gx_store.specs.Points.{Point, before}
use Rattle.gx_store.specs.Protocol.{IsReturned}
pub use Rattle.gx_store.specs.Protocol.{GoesTo}
use Rattle.gx_store.specs.Refusals.{IsRefusal}
use Rattle.gx_store.specs.Rows.{row_at}
use Rattle.gx_store.specs.Waits.{is_held}

-- the condition faults on none of the rows
abbrev pub FaultsOnNone : Option Cond → List KeyedRow → Type 0
FaultsOnNone cond rows = All (λ row. (truth : Bool) × (condition_on cond row.row ≡ Ok truth)) rows

-- a SELECT answers its query on the rows that it sees
pub record Shows (marks : List Mark) (level : Level) (g : Gxid) (c : Cid) (query : Query) (answer : List (List Cell)) : Type 0 where
  pub rows : List KeyedRow
  pub sees : Sees marks level g c query.table rows
  pub whole : FaultsOnNone query.cond rows
  pub answered : answer ≡ answer_of query rows

abbrev pub HasValues : List Expr → Type 0
HasValues tuple = (values : List Value) × (values_of tuple ≡ Ok values)

-- an INSERT has written the row of each of its tuples, and answers how many there are
pub record Inserts (marks : List Mark) (level : Level) (g : Gxid) (c : Cid) (tuples : List (List Expr)) (n : ℕ) : Type 0 where
  pub count : n ≡ length tuples
  pub snapped : has_own_snapshot level marks g c ≡ true
  pub values : All HasValues tuples
  pub each : (o : ℕ) → 1 ≤ o → o ≤ n → is_processed marks g c (record { gxid = g; cid = c; ordinal = o }) ≡ true

-- an UPDATE or DELETE has written or skipped each row that it selects, and answers how many it wrote
pub record Changes (marks : List Mark) (level : Level) (g : Gxid) (c : Cid) (table : Table) (cond : Option Cond) (n : ℕ) : Type 0 where
  pub rows : List KeyedRow
  pub sees : Sees marks level g c table rows
  pub whole : FaultsOnNone cond rows
  pub count : n ≡ write_count marks g c
  pub each : (rid : Rid) (row : List Value) → row_at rows rid ≡ Some row → condition_on cond row ≡ Ok true → is_processed marks g c rid ≡ true

-- LOCK TABLE holds its mode at the coordinator and at every segment
abbrev pub Locks : Script → List Mark → Gxid → Table → Mode → Type 0
Locks script marks g table mode = (node : Node) → node.0 ≤ script.segments → is_held marks node g (Relation table) mode ≡ true

-- a command did what its answer says
abbrev pub Tells : Script → List Mark → Level → Gxid → Cid → Stmt → StmtAnswer → Type 0
Tells script marks level g c (stmt.Select query) (Rows rows) = Shows marks level g c query rows
Tells script marks level g c (stmt.Insert table tuples) (Inserted n) = Inserts marks level g c tuples n
Tells script marks level g c (stmt.Update table assigns cond) (Updated n) = Changes marks level g c table cond n
Tells script marks level g c (stmt.Delete table cond) (Deleted n) = Changes marks level g c table cond n
Tells script marks level g c (stmt.Lock table mode) Locked = Locks script marks g table mode
Tells script marks level g c _ _ = ⊥

-- outside a block the answer stands in the step in which the transaction commits, in a block before any end of it
abbrev pub IsAtItsEnd : BlockState → Point → Gxid → Type 0
IsAtItsEnd Outside point g = is_committed point.earlier g ≡ true
IsAtItsEnd _ point g = is_ended (before point) g ≡ false

-- the line is a command, which succeeded: each node to which it goes has answered that it is done
pub record IsDone (script : Script) (point : Point) (session : SessionId) (state : BlockState) (stmt : Stmt) (answer : StmtAnswer) : Type 0 where
  pub command : is_command state stmt ≡ true
  pub g : Gxid
  pub transaction : transaction_of state session (before point) ≡ Some g
  pub end : IsAtItsEnd state point g
  pub told : Tells script (before point) (level_of state) g (cid_of state) stmt answer
  pub back : (node : Node) → GoesTo script g (cid_of state) stmt node → IsReturned point g (cid_of state) node

-- the session's block has committed, or aborted, in this step
pub record HasCommitted (point : Point) (session : SessionId) (state : BlockState) : Type 0 where
  pub g : Gxid
  pub transaction : transaction_of state session (before point) ≡ Some g
  pub committed : is_committed point.earlier g ≡ true

pub record HasAborted (point : Point) (session : SessionId) (state : BlockState) : Type 0 where
  pub g : Gxid
  pub transaction : transaction_of state session (before point) ≡ Some g
  pub aborted : is_aborted point.earlier g ≡ true

-- The answer to a line: outside a block BEGIN opens one, COMMIT and ROLLBACK change nothing, LOCK TABLE is refused; in a
-- block BEGIN changes nothing; in a failed one all but COMMIT and ROLLBACK are refused, and both of these roll back.
abbrev pub IsAnswer : Script → Point → SessionId → BlockState → Stmt → StmtAnswer → Type 0
IsAnswer script point session Outside (stmt.Begin level) Begin = is_begun session (before point) ≡ true
IsAnswer script point session Outside stmt.Commit Commit = Unit {0}
IsAnswer script point session Outside stmt.Rollback Rollback = Unit {0}
IsAnswer script point session Outside (stmt.Lock table mode) (Refused NotInBlock) = Unit {0}
IsAnswer script point session (InBlock level commands) (stmt.Begin other) Begin = Unit {0}
IsAnswer script point session (InBlock level commands) stmt.Commit Commit = HasCommitted point session (InBlock level commands)
IsAnswer script point session (InBlock level commands) stmt.Rollback Rollback = HasAborted point session (InBlock level commands)
IsAnswer script point session Failed stmt.Commit Rollback = Unit {0}
IsAnswer script point session Failed stmt.Rollback Rollback = Unit {0}
IsAnswer script point session Failed stmt.Commit (Refused reason) = ⊥
IsAnswer script point session Failed stmt.Rollback (Refused reason) = ⊥
IsAnswer script point session Failed line (Refused InFailedBlock) = Unit {0}
IsAnswer script point session Failed line reply = ⊥
IsAnswer script point session state line (Refused reason) = IsRefusal script point session state line reason
IsAnswer script point session state line reply = IsDone script point session state line reply
