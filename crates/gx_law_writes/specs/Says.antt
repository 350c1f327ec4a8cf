-- What a turn of an UPDATE or DELETE at a node says, by the marks behind it.
use Rattle.std.specs.Prelude.{◌≡◌, ◌⊎◌, ℕ, ◌+◌, Bool, true, false, if◌then◌else◌, ◌&&◌, List, [], ◌∷◌, ◌++◌, take, Some, None, Ok}
use Rattle.std.specs.declared.option.Option.{Option}
use Rattle.gx_ids.specs.declared.ids.Cid.{Cid}
use Rattle.gx_ids.specs.declared.ids.Gxid.{Gxid}
use Rattle.gx_ids.specs.declared.ids.Node.{Node}
use Rattle.gx_ids.specs.declared.ids.Table.{Table}
use Rattle.gx_ids.specs.declared.rid.Rid.{Rid}
use Rattle.gx_tree.specs.declared.cond.Cond.{Cond}
use Rattle.gx_tree.specs.declared.part.Part.TheVariants.{Rows}
use Rattle.gx_tree.specs.declared.row.KeyedRow.{KeyedRow}
use Rattle.gx_tree.specs.declared.stmt.Assign.{Assign}
use Rattle.gx_tree.specs.declared.stmt.Level.{Level}
use Rattle.gx_tree.specs.declared.stmt.Level.TheVariants.{RepeatableRead}
use Rattle.gx_tree.specs.declared.stmt.Stmt.{Stmt}
use Rattle.gx_tree.specs.declared.stmt.Stmt.TheVariants.{Delete, Update}
use Rattle.gx_tree.specs.declared.value.Value.{Value}
use Rattle.gx_meaning.specs.declared.fault.ArithFault.{ArithFault}
use Rattle.gx_msg.specs.declared.reply.Cause.TheVariants.{Serialization}
use Rattle.gx_msg.specs.declared.reply.Reply.TheVariants.{Done, Failed}
use Rattle.gx_store.specs.declared.mark.Mark.{Mark}
use Rattle.gx_store.specs.declared.mark.Mark.TheVariants.{Fault, Write}
use Rattle.gx_store.specs.Answers.{FaultsOnNone}
use Rattle.gx_store.specs.Commands.{IsSnapshotAt, condition_on}
use Rattle.gx_store.specs.Faults.{IsFaultOf}
use Rattle.gx_store.specs.Journals.{is_same_node}
use Rattle.gx_store.specs.Marks.{is_aborted, is_command_of, is_processed}
use Rattle.gx_store.specs.Refusals.{IsOvertakenRow}
use Rattle.gx_store.specs.Rows.{row_at}
use Rattle.gx_rules.specs.Changes.{Change}
use Rattle.gx_rules.specs.Segments.{SegTurn, reply}
use Rattle.gx_rules.specs.Slices.{cause_of}
use Rattle.gx_law_writes.specs.Parts.{IsPartOf}

-- the statement that the change is
abbrev pub changing_stmt : Table → Option Cond → Option (List Assign) → Stmt
changing_stmt table cond (Some assigns) = Update table assigns cond
changing_stmt table cond None = Delete table cond

abbrev pub stmt_of_change : Change → Stmt
stmt_of_change k = changing_stmt k.table k.cond k.set

-- how many rows the command has written at the node
abbrev pub count_at : Node → Gxid → Cid → List Mark → ℕ
count_at node g c [] = 0
count_at node g c (Write h d n t r image ∷ ms) = if is_same_node n node && is_command_of g c h d then count_at node g c ms + 1 else count_at node g c ms
count_at node g c (_ ∷ ms) = count_at node g c ms

-- Each row that the command selects of the node's part of what it sees is written or skipped; the condition faults on none of that
-- part; and the count is of the rows that it has written there.
pub record IsPartDone (marks : List Mark) (node : Node) (level : Level) (g : Gxid) (c : Cid) (table : Table) (cond : Option Cond) (count : ℕ) : Type 0 where
  pub place : ℕ
  pub taken : IsSnapshotAt marks level g c place
  pub rows : List KeyedRow
  pub of : IsPartOf marks (take place marks) node g c table rows
  pub whole : FaultsOnNone cond rows
  pub each : (rid : Rid) (row : List Value) → row_at rows rid ≡ Some row → condition_on cond row ≡ Ok true → is_processed marks g c rid ≡ true
  pub counted : count ≡ count_at node g c marks

-- it has done all its rows, and says how many it has written
pub record SaysDone (before : List Mark) (node : Node) (g : Gxid) (k : Change) (turn : SegTurn) : Type 0 where
  pub wrote : Bool
  pub count : ℕ
  pub outs : turn.outs ≡ reply g (Done k.cid wrote count (Rows [])) ∷ []
  pub done : IsPartDone (before ++ turn.marks) node k.level g k.cid k.table k.cond count

-- it has faulted on a row, which is the turn's last mark, and says so
pub record SaysFault (before : List Mark) (g : Gxid) (k : Change) (turn : SegTurn) : Type 0 where
  pub earlier : List Mark
  pub rid : Rid
  pub image : Option (List Value)
  pub fault : ArithFault
  pub noted : turn.marks ≡ earlier ++ Fault g k.cid rid image ∷ []
  pub unaborted : is_aborted (before ++ earlier) g ≡ false
  pub faults : IsFaultOf (before ++ earlier) k.level g k.cid (stmt_of_change k) rid image fault
  pub outs : turn.outs ≡ reply g (Failed k.cid (cause_of fault)) ∷ []

-- another transaction has changed one of its rows since its snapshot, and it says so
pub record SaysOvertaken (before : List Mark) (g : Gxid) (k : Change) (turn : SegTurn) : Type 0 where
  pub isolation : k.level ≡ RepeatableRead
  pub rid : Rid
  pub writer : Gxid
  pub rows : IsOvertakenRow (before ++ turn.marks) k.level g k.cid k.table k.cond rid writer
  pub outs : turn.outs ≡ reply g (Failed k.cid (Serialization rid writer)) ∷ []

-- The turn says one of these, or nothing, as where it waits; or the command's transaction has aborted.
abbrev pub Says : List Mark → Node → Gxid → Change → SegTurn → Type 0
Says before node g k turn =
    (is_aborted before g ≡ true) ⊎ SaysDone before node g k turn ⊎ SaysFault before g k turn ⊎ SaysOvertaken before g k turn ⊎ (turn.outs ≡ [])
