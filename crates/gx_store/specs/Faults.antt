-- What it means that an evaluation of a command faulted on a row.
use Rattle.std.specs.Prelude.{◌≡◌, ◌⊎◌, ℕ, ◌-◌, ◌<◌, ◌≤◌, Bool, true, false, List, slice_get, Some, None, Ok, Err}
use Rattle.std.specs.declared.option.Option.{Option}
use Rattle.gx_ids.specs.declared.ids.Gxid.{Gxid}
use Rattle.gx_ids.specs.declared.ids.Cid.{Cid}
use Rattle.gx_ids.specs.declared.ids.SessionId.{SessionId}
use Rattle.gx_ids.specs.declared.ids.Table.{Table}
use Rattle.gx_ids.specs.declared.rid.Rid.{Rid}
use Rattle.gx_tree.specs.declared.cond.Cond.{Cond}
use Rattle.gx_tree.specs.declared.expr.Expr.{Expr}
use Rattle.gx_tree.specs.declared.row.KeyedRow.{KeyedRow}
use Rattle.gx_tree.specs.declared.stmt.Assign.{Assign}
use Rattle.gx_tree.specs.declared.stmt.Level.{Level}
use Rattle.gx_tree.specs.declared.stmt.Level.TheVariants.{ReadCommitted}
use Rattle.gx_tree.specs.declared.stmt.Stmt.{Stmt}
use Rattle.gx_tree.specs.declared.stmt.Stmt.TheVariants.{Select, Insert, Update, Delete}
use Rattle.gx_tree.specs.declared.value.Value.{Value}
use Rattle.gx_meaning.specs.declared.fault.ArithFault.{ArithFault}
use Rattle.gx_meaning.specs.Constants.{values_of}
use Rattle.gx_script.specs.declared.Script.{Script}
use Rattle.gx_store.specs.declared.mark.Mark.{Mark}
use Rattle.gx_store.specs.Commands.{IsUnderWay, Sees, condition_on}
use Rattle.gx_store.specs.Marks.{is_sent}
use Rattle.gx_store.specs.Points.{Point, before}
use Rattle.gx_store.specs.Rows.{row_at}
use Rattle.gx_store.specs.Writes.{IsCurrentFor, IsLate, IsSelectedAndFree, set_row}

-- the condition faults on a row that the command sees
pub record FaultsOnSeen (marks : List Mark) (level : Level) (g : Gxid) (c : Cid) (table : Table) (cond : Option Cond) (rid : Rid) (image : Option (List Value)) (fault : ArithFault) : Type 0 where
  pub rows : List KeyedRow
  pub sees : Sees marks level g c table rows
  pub row : List Value
  pub shown : row_at rows rid ≡ Some row
  pub meant : image ≡ Some row
  pub faults : condition_on cond row ≡ Err fault

-- at read committed, the condition faults on the current image of a selected row
pub record FaultsOnCurrent (marks : List Mark) (level : Level) (g : Gxid) (c : Cid) (table : Table) (cond : Option Cond) (rid : Rid) (image : Option (List Value)) (fault : ArithFault) : Type 0 where
  pub isolation : level ≡ ReadCommitted
  pub selected : IsSelectedAndFree marks level g c table cond rid
  pub old : List Value
  pub image_before : selected.write.image ≡ Some old
  pub meant : image ≡ Some old
  pub faults : condition_on cond old ≡ Err fault

-- the SET list faults on the current image of a selected row that would be written
pub record FaultsInSet (marks : List Mark) (level : Level) (g : Gxid) (c : Cid) (table : Table) (assigns : List Assign) (cond : Option Cond)
    (rid : Rid) (image : Option (List Value)) (fault : ArithFault) : Type 0 where
  pub selected : IsSelectedAndFree marks level g c table cond rid
  pub old : List Value
  pub image_before : selected.write.image ≡ Some old
  pub current : IsCurrentFor marks level g c cond rid selected.place selected.write old
  pub meant : image ≡ Some old
  pub faults : set_row assigns old ≡ Err fault

-- The constants of an INSERT are evaluated before anything of it is sent; the first that faults is one of the row that was to have
-- this identity.
pub record FaultsInConstants (marks : List Mark) (g : Gxid) (c : Cid) (tuples : List (List Expr)) (rid : Rid) (image : Option (List Value)) (fault : ArithFault) : Type 0 where
  pub own : (rid.gxid ≡ g) × (rid.cid ≡ c)
  pub counted : 1 ≤ rid.ordinal
  pub tuple : List Expr
  pub among : slice_get tuples (rid.ordinal - 1) ≡ Some tuple
  pub faults : values_of tuple ≡ Err fault
  pub first : (k : ℕ) (earlier : List Expr) → k < rid.ordinal - 1 → slice_get tuples k ≡ Some earlier → (values : List Value) × (values_of earlier ≡ Ok values)
  pub meant : image ≡ None
  pub unsent : is_sent marks g c ≡ false

abbrev pub IsFaultOf : List Mark → Level → Gxid → Cid → Stmt → Rid → Option (List Value) → ArithFault → Type 0
IsFaultOf marks level g c (Select query) rid image fault = FaultsOnSeen marks level g c query.table query.cond rid image fault
IsFaultOf marks level g c (Insert table tuples) rid image fault = FaultsInConstants marks g c tuples rid image fault
IsFaultOf marks level g c (Update table assigns cond) rid image fault =
    FaultsOnSeen marks level g c table cond rid image fault ⊎ FaultsOnCurrent marks level g c table cond rid image fault ⊎ FaultsInSet marks level g c table assigns cond rid image fault
IsFaultOf marks level g c (Delete table cond) rid image fault =
    FaultsOnSeen marks level g c table cond rid image fault ⊎ FaultsOnCurrent marks level g c table cond rid image fault
IsFaultOf marks level g c _ rid image fault = ⊥

-- a command under way faults
pub record IsLiveFault (script : Script) (point : Point) (g : Gxid) (c : Cid) (rid : Rid) (image : Option (List Value)) : Type 0 where
  pub session : SessionId
  pub stmt : Stmt
  pub level : Level
  pub fault : ArithFault
  pub runs : IsUnderWay script point session stmt level g c
  pub faults : IsFaultOf (before point) level g c stmt rid image fault

-- a segment evaluates something of the statement: SELECT, UPDATE and DELETE
abbrev pub may_fault_late : Stmt → Bool
may_fault_late (Select query) = true
may_fault_late (Update table assigns cond) = true
may_fault_late (Delete table cond) = true
may_fault_late _ = false

-- such a command faults late
pub record IsLateFault (script : Script) (point : Point) (g : Gxid) (c : Cid) : Type 0 where
  pub stmt : Stmt
  pub late : IsLate script point g c stmt
  pub kind : may_fault_late stmt ≡ true

abbrev pub LegalFault : Script → Point → Gxid → Cid → Rid → Option (List Value) → Type 0
LegalFault script point g c rid image = IsLiveFault script point g c rid image ⊎ IsLateFault script point g c
