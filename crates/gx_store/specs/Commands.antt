-- A command under way: its line, its transaction, its number, its snapshot and the rows that it sees.
use Rattle.std.specs.Prelude.{◌≡◌, ℕ, ◌+◌, Bool, true, false, List, take, slice_get, Some, Ok, Result}
use Rattle.std.specs.declared.option.Option.{Option}
use Rattle.gx_ids.specs.declared.ids.Gxid.{Gxid}
use Rattle.gx_ids.specs.declared.ids.Cid.{Cid}
use Rattle.gx_ids.specs.declared.ids.SessionId.{SessionId}
use Rattle.gx_ids.specs.declared.ids.Table.{Table}
use Rattle.gx_tree.specs.declared.cond.Cond.{Cond}
use Rattle.gx_tree.specs.declared.row.KeyedRow.{KeyedRow}
use Rattle.gx_tree.specs.declared.stmt.Level.{Level}
use Rattle.gx_tree.specs.declared.stmt.Level.TheVariants.{ReadCommitted, RepeatableRead}
use Rattle.gx_tree.specs.declared.stmt.Stmt.{Stmt}
use Rattle.gx_tree.specs.declared.value.Value.{Value}
use Rattle.gx_dsnap.specs.declared.snapshot.Snapshot.{Snapshot}
use Rattle.gx_meaning.specs.Expressions.{truth_of}
use Rattle.gx_meaning.specs.declared.fault.ArithFault.{ArithFault}
use Rattle.gx_script.specs.declared.Script.{Script}
use Rattle.gx_store.specs.declared.mark.Mark.{Mark}
use Rattle.gx_store.specs.declared.mark.Mark.TheVariants.{Snap}
use Rattle.gx_store.specs.Lines.{BlockState, cid_of, is_command, level_of, next_stmt, state_of, transaction_of}
use Rattle.gx_store.specs.Marks.{answer_count, has_snapshot, is_ended, is_snapped}
use Rattle.gx_store.specs.Points.{Point, before, starts_at}
use Rattle.gx_store.specs.View.{IsView}

-- the session's line under way is this one: it was started, and it isn't answered
pub record RunsLine (script : Script) (point : Point) (session : SessionId) (stmt : Stmt) : Type 0 where
  pub started : starts_at session point ≡ answer_count session (before point) + 1
  pub line : next_stmt session script (before point) ≡ Some stmt

abbrev pub state_at : Script → SessionId → Point → BlockState
state_at script session point = state_of script session (before point)

-- that line is a command, the one of this number in this transaction
pub record RunsCommand (script : Script) (point : Point) (session : SessionId) (stmt : Stmt) (level : Level) (g : Gxid) (c : Cid) : Type 0 where
  pub line : RunsLine script point session stmt
  pub command : is_command (state_at script session point) stmt ≡ true
  pub transaction : transaction_of (state_at script session point) session (before point) ≡ Some g
  pub number : c ≡ cid_of (state_at script session point)
  pub isolation : level ≡ level_of (state_at script session point)

-- it is under way, and its transaction has not ended
pub record IsUnderWay (script : Script) (point : Point) (session : SessionId) (stmt : Stmt) (level : Level) (g : Gxid) (c : Cid) : Type 0 where
  pub runs : RunsCommand script point session stmt level g c
  pub running : is_ended (before point) g ≡ false

-- SNAPSHOTS
-- the command has its snapshot: its own at read committed, that of its transaction at repeatable read
abbrev pub has_own_snapshot : Level → List Mark → Gxid → Cid → Bool
has_own_snapshot ReadCommitted marks g c = is_snapped marks g c
has_own_snapshot RepeatableRead marks g c = has_snapshot marks g

-- a snapshot that was taken for the transaction's command d serves its command c
abbrev pub Serves : Level → Cid → Cid → Type 0
Serves ReadCommitted d c = d ≡ c
Serves RepeatableRead d c = Unit {0}

-- among the marks, the one at this place took the snapshot by which the command reads
pub record IsSnapshotAt (marks : List Mark) (level : Level) (g : Gxid) (c : Cid) (place : ℕ) : Type 0 where
  pub d : Cid
  pub snapshot : Snapshot
  pub taken : slice_get marks place ≡ Some (Snap g d snapshot)
  pub serves : Serves level d c

-- the rows of a table that the command sees
pub record Sees (marks : List Mark) (level : Level) (g : Gxid) (c : Cid) (table : Table) (rows : List KeyedRow) : Type 0 where
  pub place : ℕ
  pub taken : IsSnapshotAt marks level g c place
  pub view : IsView marks (take place marks) (Some (g, c)) table rows

-- CONDITIONS
-- what a condition says of a row, or its fault; without one all rows are meant
abbrev pub condition_on : Option Cond → List Value → Result Bool ArithFault
condition_on (Some cond) row = truth_of row cond
condition_on _ row = Ok true
