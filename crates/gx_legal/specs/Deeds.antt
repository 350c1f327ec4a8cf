-- What a command does, and which commands do it.
use Rattle.std.specs.Prelude.{◌≡◌, ◌⊎◌, true, false, List}
use Rattle.gx_ids.specs.declared.ids.Cid.{Cid}
use Rattle.gx_ids.specs.declared.ids.Gxid.{Gxid}
use Rattle.gx_ids.specs.declared.ids.SessionId.{SessionId}
use Rattle.gx_meaning.specs.declared.fault.ArithFault.{ArithFault}
use Rattle.gx_script.specs.declared.Script.{Script}
use Rattle.gx_store.specs.declared.mark.Mark.{Mark}
use Rattle.gx_store.specs.Commands.{IsUnderWay, has_own_snapshot}
use Rattle.gx_store.specs.Faults.{IsFaultOf, may_fault_late}
use Rattle.gx_store.specs.Lines.{is_on_rows}
use Rattle.gx_store.specs.Marks.{is_aborted}
use Rattle.gx_store.specs.Points.{IsBeforeInStep, IsPointOf, Point, before}
use Rattle.gx_store.specs.Writes.{IsLateWriteOf, IsSkipOf, IsWriteOf, may_skip}
use Rattle.gx_tree.specs.declared.stmt.Level.{Level}
use Rattle.gx_tree.specs.declared.stmt.Stmt.{Stmt}
use Rattle.gx_legal.specs.declared.deed.Act.{Act}
use Rattle.gx_legal.specs.declared.deed.Act.TheVariants as act
use Rattle.gx_legal.specs.declared.deed.Deed.{Deed}

-- a command of this number in a transaction does so behind these marks
pub record Doing : Type 0 where
  pub marks : List Mark
  pub g : Gxid
  pub c : Cid
  pub act : Act

abbrev pub doing_of : Deed → Doing
doing_of deed = record { marks = deed.marks.now; g = deed.gxid; c = deed.cid; act = deed.act }

-- the command of this statement, at this level, may do it
abbrev pub MayAct : Script → List Mark → Gxid → Cid → Stmt → Level → Act → Type 0
MayAct script marks g c stmt level act.Snap = (is_on_rows stmt ≡ true) × (has_own_snapshot level marks g c ≡ false)
MayAct script marks g c stmt level (act.Write row image) = (has_own_snapshot level marks g c ≡ true) × IsWriteOf script marks level g c stmt row.node row.table row.rid image.now
MayAct script marks g c stmt level (act.Skip rid) = IsSkipOf marks level g c stmt rid
MayAct script marks g c stmt level (act.Fault rid image) = (fault : ArithFault) × IsFaultOf marks level g c stmt rid image.now fault
MayAct script marks g c stmt level (act.LateWrite row image) = IsLateWriteOf script marks g c stmt row.node row.table row.rid image.now
MayAct script marks g c stmt level act.LateSkip = may_skip stmt ≡ true
MayAct script marks g c stmt level act.LateFault = may_fault_late stmt ≡ true

abbrev pub May : Script → Doing → Stmt → Level → Type 0
May script doing stmt level = MayAct script doing.marks doing.g doing.c stmt level doing.act

-- the session's command under way at the point may do it
abbrev pub IsByCommandOf : Script → Point → Doing → SessionId → Type 0
IsByCommandOf script point doing session = (stmt : Stmt) × (level : Level) × IsUnderWay script point session stmt level doing.g doing.c × May script doing stmt level

-- some session's
abbrev pub IsByCommand : Script → Point → Doing → Type 0
IsByCommand script point doing = (session : SessionId) × IsByCommandOf script point doing session

-- one at a point of the same step, up to this one
abbrev pub IsByEarlierInStep : Script → Point → Doing → Type 0
IsByEarlierInStep script point doing = (early : Point) × IsBeforeInStep early point × IsByCommand script early doing

-- one at a point of an earlier step
abbrev pub IsByEarlierStep : Script → Point → Doing → Type 0
IsByEarlierStep script point doing = (early : Point) × IsPointOf point.steps early × IsByCommand script early doing

-- it is of a transaction that has aborted, and of a command that was under way at the point or at an earlier one
abbrev pub IsLateDoing : Script → Point → Doing → Type 0
IsLateDoing script point doing = (is_aborted (before point) doing.g ≡ true) × (IsByEarlierStep script point doing ⊎ IsByEarlierInStep script point doing)

-- a command under way does the one, or one that was earlier the other
abbrev pub IsByEither : Script → Point → Gxid → Cid → Act → Act → Type 0
IsByEither script point g c live late =
    IsByCommand script point (record { marks = before point; g = g; c = c; act = live }) ⊎ IsLateDoing script point (record { marks = before point; g = g; c = c; act = late })
