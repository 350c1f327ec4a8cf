-- Why a line is refused, part by part.
use Rattle.std.specs.Prelude.{◌≡◌, ◌≤◌, ℕ, Bool, true, false, List, length, take, slice_get, Some, Contains}
use Rattle.std.specs.declared.option.Option.{Option}
use Rattle.gx_ids.specs.declared.ids.Cid.{Cid}
use Rattle.gx_ids.specs.declared.ids.Gxid.{Gxid}
use Rattle.gx_ids.specs.declared.ids.Node.{Node}
use Rattle.gx_ids.specs.declared.ids.Table.{Table}
use Rattle.gx_ids.specs.declared.rid.Rid.{Rid}
use Rattle.gx_meaning.specs.declared.fault.ArithFault.{ArithFault}
use Rattle.gx_meaning.specs.declared.fault.ArithFault.TheVariants as arith
use Rattle.gx_msg.specs.declared.reply.Cause.{Cause}
use Rattle.gx_msg.specs.declared.reply.Cause.TheVariants as cause
use Rattle.gx_store.specs.declared.mark.Mark.{Mark}
use Rattle.gx_store.specs.declared.mark.Mark.TheVariants.{Fault, Recheck}
use Rattle.gx_store.specs.declared.run.Step.{Step}
use Rattle.gx_store.specs.Faults.{IsFaultOf}
use Rattle.gx_store.specs.Marks.{is_aborted}
use Rattle.gx_store.specs.Parts.{IsFaulted, IsReason}
use Rattle.gx_store.specs.Points.{Point, before, marks_in}
use Rattle.gx_store.specs.Refusals.{HasFaulted, HasJournalFailed, HearsCause, HearsFailed, IsFirstFailed, IsNamed, IsOvertaken, IsOvertakenRow, IsWord}
use Rattle.gx_store.specs.declared.answer.Refused.{Refused}
use Rattle.gx_store.specs.declared.answer.Refused.TheVariants as why
use Rattle.gx_tree.specs.declared.cond.Cond.{Cond}
use Rattle.gx_tree.specs.declared.stmt.Level.{Level}
use Rattle.gx_tree.specs.declared.stmt.Stmt.{Stmt}
use Rattle.gx_tree.specs.declared.stmt.Stmt.TheVariants as stmt
use Rattle.gx_tree.specs.declared.value.Value.{Value}
use Rattle.gx_waits.specs.declared.graph.LocalGraph.{LocalGraph}
use Rattle.gx_waits.specs.declared.verdict.Verdict.{Verdict}
use Rattle.gx_waits.specs.declared.verdict.Verdict.TheVariants.{Victims}

-- VICTIMS
-- the verdict names the transaction
abbrev pub IsAmong : Gxid → Verdict → Type 0
IsAmong g verdict = (victims : List Gxid) × (verdict ≡ Victims victims) × Contains victims g

-- the mark is of a round that names it
abbrev pub Names : ℕ → Gxid → Mark → Type 0
Names round g mark = (own : LocalGraph) × (verdict : Verdict) × (mark ≡ Recheck round own verdict) × IsAmong g verdict

abbrev pub NamesAt : ℕ → Gxid → List Mark → ℕ → Type 0
NamesAt round g marks place = (mark : Mark) × (slice_get marks place ≡ Some mark) × Names round g mark

-- MARKS
-- the mark stands at this place
abbrev pub StandsAt : Mark → List Mark → ℕ → Type 0
StandsAt mark marks place = (found : Mark) × (slice_get marks place ≡ Some found) × (found ≡ mark)

-- the node's step notes the fault
abbrev pub NotesIn : Gxid → Cid → Rid → Option (List Value) → Node → Step → Type 0
NotesIn g c rid image node step = (step.stamp.node ≡ node) × ((place : ℕ) × StandsAt (Fault g c rid image) step.marks place)

abbrev pub NotesInStep : Gxid → Cid → Rid → Option (List Value) → Node → List Step → ℕ → Type 0
NotesInStep g c rid image node steps place = (step : Step) × (slice_get steps place ≡ Some step) × NotesIn g c rid image node step

-- FAULTS
-- a segment had noted it when it first sent FAILED of the command, in that step or before
abbrev pub HadNoted : Gxid → Cid → Rid → Option (List Value) → Node → List Step → Type 0
HadNoted g c rid image segment steps = (then : List Mark) × (first : IsFirstFailed steps segment g c then) × ((place : ℕ) × (place ≤ first.step) × NotesInStep g c rid image segment steps place)

-- FAILED of the command is received from a segment, for this cause
abbrev pub IsSaidBy : Point → Gxid → Cid → Cause → Type 0
IsSaidBy point g c reason = (segment : Node) × HearsFailed point segment g c × HearsCause point segment g c reason

-- and the segment had noted the fault, where that is asked for
abbrev pub IsTold : Bool → Point → Gxid → Cid → Rid → Option (List Value) → Cause → Type 0
IsTold true point g c rid image reason = IsWord point g c rid image reason
IsTold false point g c rid image reason = IsSaidBy point g c reason

abbrev pub IsHeardOf : Bool → Point → ℕ → Stmt → Gxid → Cid → Rid → Option (List Value) → Cause → Type 0
IsHeardOf noted point place (stmt.Insert table tuples) g c rid image reason = length (marks_in point.steps) ≤ place
IsHeardOf noted point place _ g c rid image reason = IsTold noted point g c rid image reason

-- the mark notes a fault of the command, which was one behind these marks, and is why it is refused
abbrev pub FaultsBy : Bool → Point → List Mark → ℕ → Stmt → Level → Gxid → Cid → ArithFault → Cause → Mark → Type 0
FaultsBy noted point marks place line level g c fault reason mark = (rid : Rid) × (image : Option (List Value)) × (mark ≡ Fault g c rid image)
    × (is_aborted marks g ≡ false) × IsFaultOf marks level g c line rid image fault × IsHeardOf noted point place line g c rid image reason

abbrev pub FaultsAt : Bool → Point → Stmt → Level → Gxid → Cid → ArithFault → Cause → ℕ → Type 0
FaultsAt noted point line level g c fault reason place = (mark : Mark) × (slice_get (before point) place ≡ Some mark)
    × FaultsBy noted point (take place (before point)) place line level g c fault reason mark

abbrev pub HasFaultedBy : Bool → Point → Stmt → Level → Gxid → Cid → ArithFault → Cause → Type 0
HasFaultedBy true point line level g c fault reason = HasFaulted point line level g c fault reason
HasFaultedBy false point line level g c fault reason = IsFaulted point line level g c fault reason

-- CAUSES
-- the cause of a refusal, with a segment that has noted the fault where that is asked for
abbrev pub IsCauseBy : Bool → Point → Stmt → Level → Gxid → Cid → Refused → Type 0
IsCauseBy noted point line level g c (why.Serialization rid h) = IsOvertaken point line level g c rid h
IsCauseBy noted point line level g c (why.Victim round) = IsNamed point.earlier round g
IsCauseBy noted point line level g c why.Overflow = HasFaultedBy noted point line level g c arith.Overflow cause.Overflow
IsCauseBy noted point line level g c why.DivisionByZero = HasFaultedBy noted point line level g c arith.DivisionByZero cause.DivisionByZero
IsCauseBy noted point line level g c (why.JournalFault node) = HasJournalFailed point g node
IsCauseBy noted point line level g c why.InFailedBlock = ⊥
IsCauseBy noted point line level g c why.NotInBlock = ⊥
IsCauseBy noted point line level g c (why.Restarted node) = ⊥

-- the transaction has aborted in the point's step, and for this reason
abbrev pub IsAbortedFor : Point → Stmt → Level → Gxid → Cid → Refused → Type 0
IsAbortedFor point line level g c reason = (is_aborted point.earlier g ≡ true) × IsReason point line level g c reason

-- OVERTAKEN ROWS
-- FAILED of the command is received from a segment, for a row of the table that was overtaken when the segment first sent one
abbrev pub IsOvertakenThere : Point → Level → Gxid → Cid → Table → Option Cond → Rid → Gxid → Type 0
IsOvertakenThere point level g c table cond rid h = (segment : Node) × HearsFailed point segment g c × HearsCause point segment g c (cause.Serialization rid h)
    × ((then : List Mark) × IsFirstFailed point.steps segment g c then × IsOvertakenRow then level g c table cond rid h)
