-- What the top call answers, and when.
use Rattle.std.specs.Prelude.{◌≡◌, ℕ, ◌≤◌, Bool, true, false, List, [], length, ◌++◌, if◌then◌else◌, None, Some, Result, Ok, Err, ◌⊎◌, codes}
use Rattle.std.specs.declared.option.Option.{Option}
use Rattle.std.specs.declared.string.String.{String}
use Rattle.std.specs.declared.alloc.Global.{Global}
use Rattle.std.specs.declared.vec.Vec.{Vec}
use Rattle.std.specs.Io.KnownBytes.{Appends}
use Rattle.gx_outside.specs.Causes.{Rose, WritesPrefix}
use Rattle.gx_outside.specs.Shelves.{Shelf}
use Rattle.gx_tree.specs.declared.row.KeyedRow.{KeyedRow}
use Rattle.gx_waits.specs.declared.graph.LocalGraph.{LocalGraph}
use Rattle.gx_words.specs.Asked.{AreAsked, AreGiven, AreUnknown, IsForSource, IsTooMuch, limit}
use Rattle.gx_words.specs.declared.options.Options.{Options}
use Rattle.gx_report.specs.TraceText.{trace_of}
use Rattle.gx_script.specs.declared.Script.{Script}
use Rattle.gx_sql.specs.declared.refusal.Refusal.{Refusal}
use Rattle.gx_sql.specs.Script.{Reads}
use Rattle.gx_store.specs.declared.run.Run.{Run}
use Rattle.gx_store.specs.declared.run.Step.{Step}
use Rattle.gx_store.specs.Groups.{AlwaysKeepsSlots, BeginAsAsked, lets}
use Rattle.gx_store.specs.Language.{HasFaultsOnce, IsScript}
use Rattle.gx_store.specs.OneAnswer.{DoSegmentsAnswerOnce}
use Rattle.gx_store.specs.Ordered.{AreOrdered}
use Rattle.gx_store.specs.Points.{marks_of}
use Rattle.gx_store.specs.Protocol.{DoStepsFollow}
use Rattle.gx_store.specs.Runs.{IsLegalHistory}
use Rattle.gx_store.specs.Schedule.{is_any_unfinished}
use Rattle.gx_store.specs.Stands.{DoRowsStand}
use Rattle.gx_store.specs.View.{AreFinalFrom}
use Rattle.gx_store.specs.Whole.{AreInsertsWhole}
use Rattle.gx_rules.specs.System.{IsSystemRun}
use Rattle.gx_law_merge.specs.Merge.{DoFit, IsMergeOf}
use Rattle.gx_law_locks.specs.Blocked.{DoStayBlocked}
use Rattle.gx_law_writes.specs.Legal.{AreLocksLegal}
use Rattle.gx_law_runs.specs.Endings.{IsFinished}
use Rattle.gx_law_locks.specs.Legal.{AreRoundsLegal}
use Rattle.gx_law_lone.specs.Victims.{DoLoneRoundsFindVictims}
use Rattle.gx_law_progress.specs.LoneRounds.{AreLoneRoundsFew}
use Rattle.gx_store.specs.Limits.{HaveTuplesTo}
use Rattle.gx_law_order.specs.Told.{DoStepsTell}
use Rattle.gx_drive.specs.Ends.{IsEnd}
use Rattle.gx_drive.specs.Ordered.{AreFailuresFew, AreFirst, AreHeld, AreHeldSoFar}
use Rattle.gx_drive.specs.Seeded.{AreDrawn}
use Rattle.gx_drive.specs.declared.end.End.TheVariants as end
use Rattle.gx_store.specs.Told.{no_run, usage}
use Rattle.gx_store.specs.declared.attempt.Attempt.{Attempt}
use Rattle.gx_store.specs.declared.attempt.Attempt.TheVariants.{Done, Stopped, Stuck, Usage, Refused, ReadFault, TooLarge, OutOfMemory}
use Rattle.gx_report.specs.Stops.{stuck_lines, turns_spent}
use Rattle.gx_report.specs.Summary.{summary_of}
use Rattle.gx_report.specs.Text.{answers_text, text_of}
use Rattle.gx_refusals.specs.Refused.{refusal_text}

-- the run's text, where it is asked for
abbrev pub traced : Bool → Script → Run → List ℕ
traced trace script run = if trace then trace_of script run else []

-- each event is the one among all that may happen then that the seed draws, or the first of these where no seed is given
abbrev pub AreDriven : Option ℕ → Script → List Step → Type 0
AreDriven None script steps = AreFirst script [] steps
AreDriven (Some seed) script steps = AreDrawn script seed [] steps

-- How a driver of one thread has made the run: each event is the one that it takes; where a round was all that was left to choose, it
-- comes to victims, so that there are no more such rounds, of those that came to their recheck, than transactions; and the run has no
-- more steps than turns were asked for.
pub record IsByDriver (script : Script) (options : Options) (run : Run) : Type 0 where
  pub driven : AreDriven options.seed script run.steps
  pub lone : DoLoneRoundsFindVictims script (lets script) [] run.steps
  pub few : AreLoneRoundsFew script (lets script) run.steps
  pub within : length run.steps ≤ options.turns

-- What is said of a run in threads: it is the merge, by clock and node, of histories that fit together, one of each node, which follows its rule
-- there by what the others have sent it.
pub record IsMerged (script : Script) (run : Run) : Type 0 where
  pub histories : List (List Step)
  pub fit : DoFit script histories
  pub merge : IsMergeOf histories run.steps

-- The run is a legal history of one store without segments. Its nodes follow their rules and the commit protocol, its messages are
-- numbered, follow what they tell of, and arrive after they were sent, clocks rise, rows stand where it tells of them, no segment says
-- of a command both that it is done and that it has failed, or two causes, its locks are legal, and who is blocked stays blocked until one of
-- them aborts. Its rounds of the deadlock detector ask, report and decide as they are defined; where one names somebody the waits
-- that it found stuck still stand, and whoever it names is the youngest of those who can't go on. No resource group ever has more open
-- transactions than slots, and its sessions begin theirs in the order in which they asked. Where the words ask for no threads, a driver
-- has made the run; else it is the merge of histories that fit, and that threads made it is no clause.
pub record IsRunOf (script : Script) (options : Options) (run : Run) : Type 0 where
  pub legal : IsLegalHistory script run
  pub ordered : AreOrdered script [] run.steps
  pub system : IsSystemRun script run
  pub protocol : DoStepsFollow script [] run.steps
  pub tells : DoStepsTell [] run.steps
  pub standing : DoRowsStand [] run.steps
  pub answers : DoSegmentsAnswerOnce script run.steps
  pub locks : AreLocksLegal script run.steps
  pub blocked : DoStayBlocked (marks_of run)
  pub rounds : AreRoundsLegal script run.steps
  pub slots : AlwaysKeepsSlots script (marks_of run)
  pub queued : BeginAsAsked script run.steps
  pub alone : options.threads ≡ false → IsByDriver script options run
  pub threads : options.threads ≡ true → IsMerged script run

-- the tables of a script as they are behind a run
pub record AreTables (script : Script) (run : Run) (tables : List (Vec KeyedRow Global)) : Type 0 where
  pub all : length tables ≡ length script.tables
  pub final : AreFinalFrom 0 (marks_of run) tables

-- what is told of a run that ended with these tables: its answers and the tables, or the line on generated work
abbrev pub ended_text : Option ℕ → Script → Run → List (Vec KeyedRow Global) → List ℕ
ended_text None script run tables = text_of script run tables
ended_text (Some number) script run tables = summary_of number script run tables

-- what is told of a run that stopped: its answers, or the line on generated work, of the tables as they are by then
abbrev pub SaysSoFar : Option ℕ → Script → Run → List ℕ → Type 0
SaysSoFar None script run said = said ≡ answers_text script run
SaysSoFar (Some number) script run said = (tables : List (Vec KeyedRow Global)) × AreTables script run tables × (said ≡ summary_of number script run tables)

-- the text of a run that ended, and the run's own behind it where that is asked for
pub record IsEndedText (script : Script) (options : Options) (run : Run) (text : List ℕ) : Type 0 where
  pub tables : List (Vec KeyedRow Global)
  pub final : AreTables script run tables
  pub told : text ≡ ended_text options.work script run tables ++ traced options.trace script run

-- the text of one that stopped, with why it stopped
pub record IsStoppedText (script : Script) (options : Options) (run : Run) (why text : List ℕ) : Type 0 where
  pub front : List ℕ
  pub says : SaysSoFar options.work script run front
  pub told : text ≡ front ++ why ++ traced options.trace script run

-- no session is unfinished: every line was answered in it, every block is closed, every transaction has ended; and this is its text
pub record IsWholeRunOf (script : Script) (options : Options) (run : Run) (text : List ℕ) : Type 0 where
  pub is : IsRunOf script options run
  pub done : is_any_unfinished script run.steps ≡ false
  pub ended : options.threads ≡ false → IsEnd script run.steps options.turns end.Done
  pub over : IsFinished script run
  pub told : IsEndedText script options run text

-- no threads were asked for, all turns were taken, a session is unfinished, and this is the text that says so
pub record IsStoppedRunOf (script : Script) (options : Options) (run : Run) (text : List ℕ) : Type 0 where
  pub is : IsRunOf script options run
  pub alone : options.threads ≡ false
  pub ended : IsEnd script run.steps options.turns end.Turns
  pub told : IsStoppedText script options run turns_spent text

-- No threads were asked for, the detector is off, turns are left and a session is unfinished, but nothing may happen; and this is the
-- text that says so and which waits are stuck.
pub record IsStuckRunOf (script : Script) (options : Options) (run : Run) (text : List ℕ) : Type 0 where
  pub is : IsRunOf script options run
  pub alone : options.threads ≡ false
  pub off : script.detector ≡ false
  pub graphs : List LocalGraph
  pub ended : IsEnd script run.steps options.turns (end.Stuck graphs)
  pub told : IsStoppedText script options run (stuck_lines graphs) text

-- what became of a script that was run
abbrev pub IsRan : Script → Options → Attempt → Type 0
IsRan script options (Done run text) = IsWholeRunOf script options run text.items
IsRan script options (Stopped run text) = IsStoppedRunOf script options run text.items
IsRan script options (Stuck run text) = IsStuckRunOf script options run text.items
IsRan script options (OutOfMemory run) = (run ≡ no_run) ⊎ IsRunOf script options run
IsRan script options _ = ⊥

-- what is said of bytes that are no script for this reason
abbrev pub IsRefusedFor : Refusal → Attempt → Type 0
IsRefusedFor refusal (Refused text) = refusal_text refusal ≡ Some text.items
IsRefusedFor refusal (OutOfMemory run) = run ≡ no_run
IsRefusedFor refusal _ = ⊥

-- what became of bytes that are no script, or for which memory was missing
abbrev pub IsNoScript : List ℕ → Attempt → Type 0
IsNoScript bytes (Refused text) = (refusal : Refusal) × Reads bytes (Err refusal) × (refusal_text refusal ≡ Some text.items)
IsNoScript bytes (OutOfMemory run) = run ≡ no_run
IsNoScript bytes _ = ⊥

-- the bytes that were given are this script, or no script for this reason
pub record IsRead (work : Option ℕ) (left after : Option (List ℕ)) (said : Result Script Refusal) : Type 0 where
  pub bytes : List ℕ
  pub given : AreGiven work left after bytes
  pub few : length bytes ≤ limit
  pub is : Reads bytes said

-- The script keeps the rules and the limits of the language, has no fault of a link twice, each of its INSERTs has a tuple, and no more than the
-- limit of bytes, and each tuple a value for the distribution column.
pub record KeepsLanguage (script : Script) : Type 0 where
  pub language : IsScript script
  pub faults : HasFaultsOnce script
  pub inserts : AreInsertsWhole script.tables script.lines
  pub tuples : HaveTuplesTo limit script.lines

-- so does whatever script was read
abbrev pub IsOfLanguage : Option (List ℕ) → Option (List ℕ) → Type 0
IsOfLanguage left after = (work : Option ℕ) (script : Script) → IsRead work left after (Ok script) → KeepsLanguage script

-- the words ask for threads
pub record IsForThreads (words : List (String Global)) : Type 0 where
  pub options : Options
  pub asked : AreAsked words options
  pub threads : options.threads ≡ true

-- the words ask for this, what was given is this script, and the source has counted no fault
pub record IsGiven (words : List (String Global)) (left after : Option (List ℕ)) (before now : ℕ) (options : Options) (script : Script) : Type 0 where
  pub asked : AreAsked words options
  pub read : IsRead options.work left after (Ok script)
  pub calm : now ≡ before

-- the words ask for this, and the bytes that were given are a script of which this holds
pub record HasScript (words : List (String Global)) (left after : Option (List ℕ)) (Is : Script → Options → Type 0) : Type 0 where
  pub options : Options
  pub asked : AreAsked words options
  pub script : Script
  pub read : IsRead options.work left after (Ok script)
  pub is : Is script options

-- nothing was run, or a run of the script that was read, up to some step
abbrev pub IsPartRun : List (String Global) → Option (List ℕ) → Option (List ℕ) → Run → Type 0
IsPartRun words left after run = (run ≡ no_run) ⊎ HasScript words left after (λ script options. IsRunOf script options run)

-- a script was read, and this is its run and the text of that
abbrev pub IsDone : List (String Global) → Option (List ℕ) → Option (List ℕ) → Run → List ℕ → Type 0
IsDone words left after run text = HasScript words left after (λ script options. IsWholeRunOf script options run text)

-- a script was read, and its run stopped once all turns were taken
abbrev pub IsStopped : List (String Global) → Option (List ℕ) → Option (List ℕ) → Run → List ℕ → Type 0
IsStopped words left after run text = HasScript words left after (λ script options. IsStoppedRunOf script options run text)

-- a script was read, and its run is stuck
abbrev pub IsStuck : List (String Global) → Option (List ℕ) → Option (List ℕ) → Run → List ℕ → Type 0
IsStuck words left after run text = HasScript words left after (λ script options. IsStuckRunOf script options run text)

-- the words are not in the language, nothing was run, and the text says what is
pub record IsUsage (words : List (String Global)) (run : Run) (text : List ℕ) : Type 0 where
  pub unknown : AreUnknown words
  pub empty : run ≡ no_run
  pub told : text ≡ usage

-- the words ask for no generated work, the bytes that were read are no script, nothing was run, and the text says why
pub record IsRefused (words : List (String Global)) (left after : Option (List ℕ)) (run : Run) (text : List ℕ) : Type 0 where
  pub options : Options
  pub asked : AreAsked words options
  pub plain : options.work ≡ None
  pub refusal : Refusal
  pub read : IsRead options.work left after (Err refusal)
  pub empty : run ≡ no_run
  pub told : refusal_text refusal ≡ Some text

-- the source failed, nothing was run, and the text says so
pub record IsReadFault (words : List (String Global)) (before now : ℕ) (run : Run) (text : List ℕ) : Type 0 where
  pub asked : IsForSource words
  pub rose : Rose before now
  pub empty : run ≡ no_run
  pub told : text ≡ codes "read fault\n"

-- more bytes came than a script may have, nothing was run, and the text says so
pub record IsTooLarge (words : List (String Global)) (left after : Option (List ℕ)) (run : Run) (text : List ℕ) : Type 0 where
  pub asked : IsForSource words
  pub much : IsTooMuch left after
  pub empty : run ≡ no_run
  pub told : text ≡ codes "too large\n"

-- what the work before the writing came to
abbrev pub IsAttempt : List (String Global) → Option (List ℕ) → Option (List ℕ) → ℕ → ℕ → Attempt → Type 0
IsAttempt words left after before now (Done run text) = IsDone words left after run text.items
IsAttempt words left after before now (Stopped run text) = IsStopped words left after run text.items
IsAttempt words left after before now (Stuck run text) = IsStuck words left after run text.items
IsAttempt words left after before now Usage = AreUnknown words
IsAttempt words left after before now (Refused text) = IsRefused words left after no_run text.items
IsAttempt words left after before now ReadFault = IsForSource words × Rose before now
IsAttempt words left after before now TooLarge = IsForSource words × IsTooMuch left after
IsAttempt words left after before now (OutOfMemory run) = IsPartRun words left after run × (now ≡ before)

-- What became of the journals: no node has more JournalFailed marks than its journal's count has risen, and each journal holds the items that the marks
-- of its node stand for; where the work came to its end nothing else, and else at most one item more.
pub record AreKept (steps : List Step) (over : Bool) (before after : List Shelf) : Type 0 where
  pub failures : AreFailuresFew steps before after
  pub so_far : AreHeldSoFar steps after
  pub held : over ≡ true → AreHeld steps after

-- a text of this kind was written
pub record IsWritten (IsText : List ℕ → Type 0) (written after : Option (List ℕ)) : Type 0 where
  pub text : List ℕ
  pub is : IsText text
  pub all : Appends written after text

abbrev pub IsStatus : ℕ → Type 0
IsStatus n = ((((((((n ≡ 0) ⊎ (n ≡ 2)) ⊎ (n ≡ 3)) ⊎ (n ≡ 4)) ⊎ (n ≡ 5)) ⊎ (n ≡ 6)) ⊎ (n ≡ 7)) ⊎ (n ≡ 8)) ⊎ (n ≡ 9)

-- the text that is due at some end of the work
abbrev pub IsDue : List (String Global) → Option (List ℕ) → Option (List ℕ) → ℕ → ℕ → Run → List ℕ → Type 0
IsDue words left after before now run text =
    (((((IsDone words left after run text ⊎ IsStopped words left after run text) ⊎ IsStuck words left after run text) ⊎ IsUsage words run text)
    ⊎ IsRefused words left after run text) ⊎ IsReadFault words before now run text) ⊎ IsTooLarge words left after run text

-- the sink failed, and a part of the text that was due stands there, from its front
pub record IsCutShort (IsText : List ℕ → Type 0) (written after : Option (List ℕ)) (before now : ℕ) : Type 0 where
  pub text : List ℕ
  pub is : IsText text
  pub rose : Rose before now
  pub part : WritesPrefix written after text
