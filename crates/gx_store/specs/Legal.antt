-- Which marks may stand behind which: the history of one store that takes each snapshot at one point and makes each
-- commit visible everywhere at once (PostgreSQL manual 13.2).
use Rattle.std.specs.Prelude.{◌≡◌, ◌⊎◌, ℕ, ◌+◌, ◌≤◌, Bool, true, false, List, [], ◌∷◌, ◌++◌, Some, None, All, Contains, IsSome}
use Rattle.gx_ids.specs.declared.ids.Gxid.{Gxid}
use Rattle.gx_ids.specs.declared.ids.Cid.{Cid}
use Rattle.gx_ids.specs.declared.ids.SessionId.{SessionId}
use Rattle.gx_tree.specs.declared.stmt.Level.{Level}
use Rattle.gx_tree.specs.declared.stmt.Stmt.{Stmt}
use Rattle.gx_tree.specs.declared.stmt.Stmt.TheVariants as stmt
use Rattle.gx_dsnap.specs.declared.snapshot.Snapshot.{Snapshot}
use Rattle.gx_dsnap.specs.Snapshot.{sees}
use Rattle.gx_script.specs.declared.Script.{Script}
use Rattle.gx_waits.specs.declared.verdict.Verdict.{Verdict}
use Rattle.gx_waits.specs.declared.verdict.Verdict.TheVariants.{Victims}
use Rattle.gx_store.specs.declared.answer.Refused.TheVariants.{Victim}
use Rattle.gx_store.specs.declared.answer.StmtAnswer.{StmtAnswer}
use Rattle.gx_store.specs.declared.answer.StmtAnswer.TheVariants as answer
use Rattle.gx_store.specs.declared.event.Event.{Event}
use Rattle.gx_store.specs.declared.event.Event.TheVariants as event
use Rattle.gx_store.specs.declared.mark.Mark.{Mark}
use Rattle.gx_store.specs.declared.mark.Mark.TheVariants.{Start, Snap, Write, Skip, Fault, Commit, Abort, Answer, Recheck}
use Rattle.gx_store.specs.declared.run.Step.{Step}
use Rattle.gx_store.specs.Answers.{IsAnswer}
use Rattle.gx_store.specs.Commands.{IsUnderWay, RunsLine, has_own_snapshot, state_at}
use Rattle.gx_store.specs.Faults.{LegalFault}
use Rattle.gx_store.specs.Lines.{BlockState, Outside, InBlock, is_command, is_on_rows, may_commit, next_stmt, state_of, transaction_of}
use Rattle.gx_store.specs.Marks.{answer_count, is_aborted, is_answered, is_begun, is_committed, is_ended, session_of, start_count, started_after}
use Rattle.gx_store.specs.Points.{Point, before, ends_in, marks_in, starts_in}
use Rattle.gx_store.specs.Writes.{LegalSkip, LegalWrite}

-- outside a block, BEGIN and each command draw a transaction
abbrev pub draws : BlockState → Stmt → Bool
draws Outside (stmt.Begin level) = true
draws Outside line = is_on_rows line
draws _ line = false

-- transactions are numbered from 1, one for each such line, in the step that starts the line
pub record LegalStart (script : Script) (point : Point) (g : Gxid) (session : SessionId) : Type 0 where
  pub number : g.0 ≡ start_count (before point) + 1
  pub event : point.event ≡ event.Start session
  pub line : Stmt
  pub runs : RunsLine script point session line
  pub drawing : draws (state_at script session point) line ≡ true
  pub once : is_begun session (before point) ≡ false

-- A command on rows takes its snapshot, or at repeatable read that of its transaction. It sees whoever has committed by
-- then, and besides these only who has aborted by then.
pub record LegalSnap (script : Script) (point : Point) (g : Gxid) (c : Cid) (snapshot : Snapshot) : Type 0 where
  pub session : SessionId
  pub line : Stmt
  pub level : Level
  pub runs : IsUnderWay script point session line level g c
  pub on_rows : is_on_rows line ≡ true
  pub once : has_own_snapshot level (before point) g c ≡ false
  pub committed : (h : Gxid) → is_committed (before point) h ≡ true → sees snapshot h ≡ true
  pub ended : (h : Gxid) → 1 ≤ h.0 → sees snapshot h ≡ true → is_ended (before point) h ≡ true

pub record LegalCommit (script : Script) (point : Point) (g : Gxid) : Type 0 where
  pub session : SessionId
  pub line : Stmt
  pub runs : RunsLine script point session line
  pub transaction : transaction_of (state_at script session point) session (before point) ≡ Some g
  pub running : is_ended (before point) g ≡ false
  pub committing : may_commit (state_at script session point) line ≡ true
  pub answered : is_answered session point.later ≡ true

-- a line with which a transaction may abort: ROLLBACK or COMMIT in its block, or a command
abbrev pub may_abort : BlockState → Stmt → Bool
may_abort (InBlock level commands) stmt.Commit = true
may_abort (InBlock level commands) stmt.Rollback = true
may_abort state line = is_command state line

-- a transaction aborts with a line that is answered in this step
pub record AbortsWithLine (script : Script) (point : Point) (g : Gxid) : Type 0 where
  pub session : SessionId
  pub line : Stmt
  pub runs : RunsLine script point session line
  pub transaction : transaction_of (state_at script session point) session (before point) ≡ Some g
  pub aborting : may_abort (state_at script session point) line ≡ true
  pub answered : is_answered session point.later ≡ true

-- or with the end of its session
pub record AbortsAtEnd (script : Script) (point : Point) (g : Gxid) : Type 0 where
  pub session : SessionId
  pub event : point.event ≡ event.End session
  pub transaction : transaction_of (state_at script session point) session (before point) ≡ Some g

pub record LegalAbort (script : Script) (point : Point) (g : Gxid) : Type 0 where
  pub running : is_ended (before point) g ≡ false
  pub cause : AbortsWithLine script point g ⊎ AbortsAtEnd script point g

-- a session's lines are answered in their order, each once it was started
pub record LegalAnswer (script : Script) (point : Point) (session : SessionId) (number : ℕ) (answer : StmtAnswer) : Type 0 where
  pub order : number ≡ answer_count session (before point) + 1
  pub line : Stmt
  pub runs : RunsLine script point session line
  pub is : IsAnswer script point session (state_at script session point) line answer

-- whoever a round names is aborted in its step, and its line is refused
pub record IsCancelled (point : Point) (round : ℕ) (g : Gxid) : Type 0 where
  pub aborted : is_aborted point.later g ≡ true
  pub session : SessionId
  pub number : ℕ
  pub of : session_of (before point) g ≡ Some session
  pub refused : Contains point.later (Answer session number (answer.Refused (Victim round)))

abbrev pub LegalVerdict : Point → ℕ → Verdict → Type 0
LegalVerdict point round (Victims victims) = All (IsCancelled point round) victims
LegalVerdict point round _ = Unit {0}

-- the mark may stand at this point
abbrev pub LegalMark : Script → Point → Mark → Type 0
LegalMark script point (Start g s) = LegalStart script point g s
LegalMark script point (Snap g c s) = LegalSnap script point g c s
LegalMark script point (Write g c node table rid image) = LegalWrite script point g c node table rid image
LegalMark script point (Skip g c rid) = LegalSkip script point g c rid
LegalMark script point (Fault g c rid image) = LegalFault script point g c rid image
LegalMark script point (Commit g) = LegalCommit script point g
LegalMark script point (Abort g) = LegalAbort script point g
LegalMark script point (Answer s n a) = LegalAnswer script point s n a
LegalMark script point (Recheck round own verdict) = LegalVerdict point round verdict
LegalMark script point _ = Unit {0}

-- the session has no line under way
abbrev pub IsIdle : SessionId → List Step → Type 0
IsIdle session steps = starts_in session steps ≡ answer_count session (marks_in steps)

-- the session is in a block, a failed one included
abbrev pub is_in_block : BlockState → Bool
is_in_block Outside = false
is_in_block _ = true

-- a session ends that has no line left; unless its block has failed, the transaction aborts among the marks of that step
pub record LegalEnd (script : Script) (steps : List Step) (session : SessionId) (marks : List Mark) : Type 0 where
  pub idle : IsIdle session steps
  pub over : next_stmt session script (marks_in steps) ≡ None
  pub block : is_in_block (state_of script session (marks_in steps)) ≡ true
  pub once : ends_in session steps ≡ 0
  pub rolled_back : (g : Gxid) → transaction_of (state_of script session (marks_in steps)) session (marks_in steps) ≡ Some g → is_aborted marks g ≡ true

-- a session starts a line once the line before is answered, and is ended once none is left
abbrev pub LegalEvent : Script → List Step → Event → List Mark → Type 0
LegalEvent script steps (event.Start session) marks = IsIdle session steps × IsSome (next_stmt session script (marks_in steps))
LegalEvent script steps (event.End session) marks = LegalEnd script steps session marks
LegalEvent script steps _ marks = Unit {0}

-- each of these marks of a step may stand behind the earlier ones and before the later ones
abbrev pub AreLegalMarks : Script → List Step → Event → List Mark → List Mark → List Mark → Type 0
AreLegalMarks script steps event earlier [] later = Unit {0}
AreLegalMarks script steps event earlier (m ∷ ms) later =
    LegalMark script (record { steps = steps; event = event; earlier = earlier; later = ms ++ later }) m × AreLegalMarks script steps event (earlier ++ m ∷ []) ms later

-- a line that draws a transaction draws it in the step that starts it
abbrev pub IsDrawn : Script → List Step → Event → List Mark → Type 0
IsDrawn script steps (event.Start session) marks =
    (line : Stmt) → next_stmt session script (marks_in steps) ≡ Some line → draws (state_of script session (marks_in steps)) line ≡ true → IsSome (started_after session None marks)
IsDrawn script steps _ marks = Unit {0}

pub record IsLegalStep (script : Script) (steps : List Step) (step : Step) : Type 0 where
  pub event : LegalEvent script steps step.event step.marks
  pub drawn : IsDrawn script steps step.event step.marks
  pub marks : AreLegalMarks script steps step.event [] step.marks []

-- each of the steps may follow those before it
abbrev pub AreLegalSteps : Script → List Step → List Step → Type 0
AreLegalSteps script before [] = Unit {0}
AreLegalSteps script before (s ∷ ss) = IsLegalStep script before s × AreLegalSteps script (before ++ s ∷ []) ss
