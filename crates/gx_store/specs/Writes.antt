-- Which rows a command may write, and how (PostgreSQL manual 13.2.1, 13.2.2).
use Rattle.std.specs.Prelude.{◌≡◌, ◌⊎◌, ℕ, ◌+◌, ◌-◌, ◌≤◌, Bool, true, false, not, if◌then◌else◌, ◌&&◌, ◌||◌, List, [], ◌∷◌, take, slice_get, slice_set, zero, suc, Some, None, Ok, Result}
use Rattle.std.specs.declared.option.Option.{Option}
use Rattle.gx_ids.specs.declared.ids.Gxid.{Gxid}
use Rattle.gx_ids.specs.declared.ids.Cid.{Cid}
use Rattle.gx_ids.specs.declared.ids.Node.{Node}
use Rattle.gx_ids.specs.declared.ids.SessionId.{SessionId}
use Rattle.gx_ids.specs.declared.ids.Table.{Table}
use Rattle.gx_ids.specs.declared.rid.Rid.{Rid}
use Rattle.gx_tree.specs.declared.cond.Cond.{Cond}
use Rattle.gx_tree.specs.declared.expr.Expr.{Expr}
use Rattle.gx_tree.specs.declared.row.KeyedRow.{KeyedRow}
use Rattle.gx_tree.specs.declared.schema.Dist.{Dist}
use Rattle.gx_tree.specs.declared.schema.Dist.TheVariants.{Randomly}
use Rattle.gx_tree.specs.declared.schema.Schema.{Schema}
use Rattle.gx_tree.specs.declared.stmt.Assign.{Assign}
use Rattle.gx_tree.specs.declared.stmt.Level.{Level}
use Rattle.gx_tree.specs.declared.stmt.Level.TheVariants.{ReadCommitted, RepeatableRead}
use Rattle.gx_tree.specs.declared.stmt.Stmt.{Stmt}
use Rattle.gx_tree.specs.declared.stmt.Stmt.TheVariants.{Insert, Update, Delete}
use Rattle.gx_tree.specs.declared.value.Value.{Value}
use Rattle.gx_meaning.specs.Expressions.{and_then, value_of}
use Rattle.gx_meaning.specs.declared.fault.ArithFault.{ArithFault}
use Rattle.gx_meaning.specs.Place.{row_place}
use Rattle.gx_meaning.specs.Constants.{values_of}
use Rattle.gx_script.specs.declared.Script.{Script}
use Rattle.gx_store.specs.declared.mark.Mark.{Mark}
use Rattle.gx_store.specs.declared.mark.Mark.TheVariants.{Write}
use Rattle.gx_store.specs.Commands.{IsSnapshotAt, IsUnderWay, condition_on, has_own_snapshot}
use Rattle.gx_store.specs.Marks.{is_aborted, is_committed, is_processed, is_same_gxid, is_same_rid, is_written, node_of, row_table}
use Rattle.gx_store.specs.Points.{IsNoLater, Point, before}
use Rattle.gx_store.specs.Rows.{row_at}
use Rattle.gx_store.specs.View.{IsView, is_shown_to}

-- how the rows of a table are distributed
abbrev pub dist_of : List Schema → ℕ → Dist
dist_of [] k = Randomly
dist_of (s ∷ ss) zero = s.dist
dist_of (s ∷ ss) (suc k) = dist_of ss k

-- THE CURRENT WRITE OF A ROW
-- a write to a row: who wrote what, and the mark's place
pub record Written : Type 0 where
  pub place : ℕ
  pub gxid : Gxid
  pub cid : Cid
  pub image : Option (List Value)

-- the last of the writes to the row that count, where the first mark has this place; else the one given
abbrev pub last_write : (Gxid → Cid → Bool) → Rid → ℕ → Option Written → List Mark → Option Written
last_write counts rid place last [] = last
last_write counts rid place last (Write g c node t r written ∷ ms) =
    last_write counts rid (place + 1) (if counts g c && is_same_rid r rid then Some (record { place = place; gxid = g; cid = c; image = written }) else last) ms
last_write counts rid place last (_ ∷ ms) = last_write counts rid (place + 1) last ms

-- the row's current write: the last whose transaction has not aborted
abbrev pub current : List Mark → Rid → Option Written
current marks rid = last_write (λ g c. not (is_aborted marks g)) rid 0 None marks

-- the write that the command is shown by a snapshot with these marks before it
abbrev pub shown_write : List Mark → List Mark → Gxid → Cid → Rid → Option Written
shown_write marks snapped g c rid = last_write (is_shown_to (Some (g, c)) snapped) rid 0 None marks

-- a transaction may write a row whose current write is its own or committed
abbrev pub is_free_for : List Mark → Gxid → Written → Bool
is_free_for marks g write = is_same_gxid write.gxid g || is_committed marks write.gxid

-- UPDATE AND DELETE
-- The command has selected the row: it sees it, and the condition is true on what it sees. The row's current write is free
-- for it.
pub record IsSelectedAndFree (marks : List Mark) (level : Level) (g : Gxid) (c : Cid) (table : Table) (cond : Option Cond) (rid : Rid) : Type 0 where
  pub place : ℕ
  pub taken : IsSnapshotAt marks level g c place
  pub rows : List KeyedRow
  pub view : IsView marks (take place marks) (Some (g, c)) table rows
  pub row : List Value
  pub shown : row_at rows rid ≡ Some row
  pub chosen : condition_on cond row ≡ Ok true
  pub write : Written
  pub current : current marks rid ≡ Some write
  pub free : is_free_for marks g write ≡ true

-- At read committed the condition has to be true on the current image too; at repeatable read the current write has to be
-- the very one that the command is shown.
abbrev pub IsCurrentFor : List Mark → Level → Gxid → Cid → Option Cond → Rid → ℕ → Written → List Value → Type 0
IsCurrentFor marks ReadCommitted g c cond rid place write old = condition_on cond old ≡ Ok true
IsCurrentFor marks RepeatableRead g c cond rid place write old = shown_write marks (take place marks) g c rid ≡ Some write

-- a row with a value in each column of the SET list, all of them computed from the old row, or the first fault
abbrev pub set_from : List Value → List Value → List Assign → Result (List Value) ArithFault
set_from old new [] = Ok new
set_from old new (a ∷ rest) = and_then (value_of old a.expr) (λ value. set_from old (slice_set new a.col value) rest)

abbrev pub set_row : List Assign → List Value → Result (List Value) ArithFault
set_row assigns old = set_from old old assigns

-- UPDATE writes what its SET list makes of the current image
pub record IsUpdated (marks : List Mark) (level : Level) (g : Gxid) (c : Cid) (table : Table) (assigns : List Assign) (cond : Option Cond) (rid : Rid) (image : Option (List Value)) : Type 0 where
  pub selected : IsSelectedAndFree marks level g c table cond rid
  pub old : List Value
  pub new : List Value
  pub image_before : selected.write.image ≡ Some old
  pub current : IsCurrentFor marks level g c cond rid selected.place selected.write old
  pub set : set_row assigns old ≡ Ok new
  pub written : image ≡ Some new

-- DELETE writes that the row is gone
pub record IsDeleted (marks : List Mark) (level : Level) (g : Gxid) (c : Cid) (table : Table) (cond : Option Cond) (rid : Rid) (image : Option (List Value)) : Type 0 where
  pub selected : IsSelectedAndFree marks level g c table cond rid
  pub old : List Value
  pub image_before : selected.write.image ≡ Some old
  pub current : IsCurrentFor marks level g c cond rid selected.place selected.write old
  pub written : image ≡ None

-- at read committed a selected row is left alone that is gone by now, or on whose current image the condition is false
pub record IsSkipped (marks : List Mark) (level : Level) (g : Gxid) (c : Cid) (table : Table) (cond : Option Cond) (rid : Rid) : Type 0 where
  pub isolation : level ≡ ReadCommitted
  pub selected : IsSelectedAndFree marks level g c table cond rid
  pub left : (selected.write.image ≡ None) ⊎ ((old : List Value) × (selected.write.image ≡ Some old) × (condition_on cond old ≡ Ok false))

-- INSERT
-- it writes the values of one of its tuples, for the first time, at the row's place
pub record IsInserted (script : Script) (marks : List Mark) (g : Gxid) (c : Cid) (table : Table) (tuples : List (List Expr)) (node : Node) (rid : Rid) (image : Option (List Value)) : Type 0 where
  pub own : (rid.gxid ≡ g) × (rid.cid ≡ c)
  pub counted : 1 ≤ rid.ordinal
  pub tuple : List Expr
  pub among : slice_get tuples (rid.ordinal - 1) ≡ Some tuple
  pub values : List Value
  pub constants : values_of tuple ≡ Ok values
  pub written : image ≡ Some values
  pub place : node.0 ≡ row_place script.segments (dist_of script.tables table.0) values rid
  pub once : is_written marks rid ≡ false

-- WRITES AND SKIPS
-- a statement writes its own table; an UPDATE or DELETE writes each row once, where the row stands
abbrev pub IsWriteOf : Script → List Mark → Level → Gxid → Cid → Stmt → Node → Table → Rid → Option (List Value) → Type 0
IsWriteOf script marks level g c (Insert table tuples) node t rid image = (t ≡ table) × IsInserted script marks g c table tuples node rid image
IsWriteOf script marks level g c (Update table assigns cond) node t rid image =
    (t ≡ table) × (node_of marks rid ≡ Some node) × (is_processed marks g c rid ≡ false) × IsUpdated marks level g c table assigns cond rid image
IsWriteOf script marks level g c (Delete table cond) node t rid image =
    (t ≡ table) × (node_of marks rid ≡ Some node) × (is_processed marks g c rid ≡ false) × IsDeleted marks level g c table cond rid image
IsWriteOf script marks level g c _ node t rid image = ⊥

abbrev pub IsSkipOf : List Mark → Level → Gxid → Cid → Stmt → Rid → Type 0
IsSkipOf marks level g c (Update table assigns cond) rid = (is_processed marks g c rid ≡ false) × IsSkipped marks level g c table cond rid
IsSkipOf marks level g c (Delete table cond) rid = (is_processed marks g c rid ≡ false) × IsSkipped marks level g c table cond rid
IsSkipOf marks level g c _ rid = ⊥

-- A mark of a transaction that has aborted already counts for nothing, but it is of one of its commands: of one that was
-- under way at an earlier point of the run.
pub record IsLate (script : Script) (point : Point) (g : Gxid) (c : Cid) (stmt : Stmt) : Type 0 where
  pub aborted : is_aborted (before point) g ≡ true
  pub early : Point
  pub earlier : IsNoLater early point
  pub session : SessionId
  pub level : Level
  pub ran : IsUnderWay script early session stmt level g c

-- The image of a late UPDATE or DELETE isn't judged. It is of a row of the statement's table, where that stands. A late INSERT
-- writes as one in time does.
abbrev pub IsLateWriteOf : Script → List Mark → Gxid → Cid → Stmt → Node → Table → Rid → Option (List Value) → Type 0
IsLateWriteOf script marks g c (Insert table tuples) node t rid image = (t ≡ table) × IsInserted script marks g c table tuples node rid image
IsLateWriteOf script marks g c (Update table assigns cond) node t rid image = (t ≡ table) × (node_of marks rid ≡ Some node) × (row_table marks rid ≡ Some table)
IsLateWriteOf script marks g c (Delete table cond) node t rid image = (t ≡ table) × (node_of marks rid ≡ Some node) × (row_table marks rid ≡ Some table)
IsLateWriteOf script marks g c _ node t rid image = ⊥

-- a command under way, which has its snapshot, writes
pub record IsLiveWrite (script : Script) (point : Point) (g : Gxid) (c : Cid) (node : Node) (table : Table) (rid : Rid) (image : Option (List Value)) : Type 0 where
  pub session : SessionId
  pub stmt : Stmt
  pub level : Level
  pub runs : IsUnderWay script point session stmt level g c
  pub snapped : has_own_snapshot level (before point) g c ≡ true
  pub writes : IsWriteOf script (before point) level g c stmt node table rid image

pub record IsLateWrite (script : Script) (point : Point) (g : Gxid) (c : Cid) (node : Node) (table : Table) (rid : Rid) (image : Option (List Value)) : Type 0 where
  pub stmt : Stmt
  pub late : IsLate script point g c stmt
  pub writes : IsLateWriteOf script (before point) g c stmt node table rid image

pub record IsLiveSkip (script : Script) (point : Point) (g : Gxid) (c : Cid) (rid : Rid) : Type 0 where
  pub session : SessionId
  pub stmt : Stmt
  pub level : Level
  pub runs : IsUnderWay script point session stmt level g c
  pub skips : IsSkipOf (before point) level g c stmt rid

-- UPDATE and DELETE
abbrev pub may_skip : Stmt → Bool
may_skip (Update table assigns cond) = true
may_skip (Delete table cond) = true
may_skip _ = false

pub record IsLateSkip (script : Script) (point : Point) (g : Gxid) (c : Cid) : Type 0 where
  pub stmt : Stmt
  pub late : IsLate script point g c stmt
  pub kind : may_skip stmt ≡ true

abbrev pub LegalWrite : Script → Point → Gxid → Cid → Node → Table → Rid → Option (List Value) → Type 0
LegalWrite script point g c node table rid image = IsLiveWrite script point g c node table rid image ⊎ IsLateWrite script point g c node table rid image

abbrev pub LegalSkip : Script → Point → Gxid → Cid → Rid → Type 0
LegalSkip script point g c rid = IsLiveSkip script point g c rid ⊎ IsLateSkip script point g c
