-- The commit protocol in three parts: how transactions end, what a command's answer waits for, and of which line a commit is.
use Rattle.std.specs.Prelude.{List, [], ◌∷◌, ◌++◌}
use Rattle.gx_ids.specs.declared.ids.Node.{Node}
use Rattle.gx_msg.specs.declared.message.Message.TheVariants as message
use Rattle.gx_script.specs.declared.Script.{Script}
use Rattle.gx_store.specs.declared.mark.Mark.{Mark}
use Rattle.gx_store.specs.declared.mark.Mark.TheVariants as mark
use Rattle.gx_store.specs.declared.run.Step.{Step}
use Rattle.gx_store.specs.Points.{Point, before}
use Rattle.gx_store.specs.Protocol.{FollowsAt, IsCommitting, IsComplete, IsToCommit, IsToExecute, IsToPrepare}

abbrev pub EndsAt : Script → Node → Point → Mark → Type 0
EndsAt script node point (mark.Answer session number answer) = Unit {0}
EndsAt script node point (mark.Sent to number (message.Exec g c level snapshot horizon slice)) = Unit {0}
EndsAt script node point (mark.Sent to number (message.Prepare g)) = IsToPrepare script (before point) to g
EndsAt script node point (mark.Sent to number (message.Commit g)) = IsToCommit (before point) to g
EndsAt script node point m = FollowsAt script node point m

abbrev pub DoMarksEnd : Script → List Step → Step → List Mark → List Mark → Type 0
DoMarksEnd script steps step earlier [] = Unit {0}
DoMarksEnd script steps step earlier (m ∷ ms) =
    EndsAt script step.stamp.node (record { steps = steps; event = step.event; earlier = earlier; later = ms }) m × DoMarksEnd script steps step (earlier ++ m ∷ []) ms

-- transactions promise, decide, commit and abort by the protocol in these steps
abbrev pub DoStepsEnd : Script → List Step → List Step → Type 0
DoStepsEnd script before [] = Unit {0}
DoStepsEnd script before (s ∷ ss) = DoMarksEnd script before s [] s.marks × DoStepsEnd script (before ++ s ∷ []) ss

abbrev pub AnswersAt : Script → Node → Point → Mark → Type 0
AnswersAt script node point (mark.Answer session number answer) = IsComplete script point session answer
AnswersAt script node point _ = Unit {0}

abbrev pub DoMarksAnswer : Script → List Step → Step → List Mark → List Mark → Type 0
DoMarksAnswer script steps step earlier [] = Unit {0}
DoMarksAnswer script steps step earlier (m ∷ ms) =
    AnswersAt script step.stamp.node (record { steps = steps; event = step.event; earlier = earlier; later = ms }) m × DoMarksAnswer script steps step (earlier ++ m ∷ []) ms

-- commands are answered only when every segment that they were sent to is done
abbrev pub DoStepsAnswer : Script → List Step → List Step → Type 0
DoStepsAnswer script before [] = Unit {0}
DoStepsAnswer script before (s ∷ ss) = DoMarksAnswer script before s [] s.marks × DoStepsAnswer script (before ++ s ∷ []) ss

-- PREPARE and COMMIT are of a transaction that is on its way to a commit, and EXEC of one that isn't
abbrev pub CommitsAt : Script → Point → Mark → Type 0
CommitsAt script point (mark.Sent to number (message.Exec g c level snapshot horizon slice)) = IsToExecute script point g c
CommitsAt script point (mark.Sent to number (message.Prepare g)) = IsCommitting script point g
CommitsAt script point (mark.Sent to number (message.Commit g)) = IsCommitting script point g
CommitsAt script point _ = Unit {0}

abbrev pub DoMarksCommit : Script → List Step → Step → List Mark → List Mark → Type 0
DoMarksCommit script steps step earlier [] = Unit {0}
DoMarksCommit script steps step earlier (m ∷ ms) =
    CommitsAt script (record { steps = steps; event = step.event; earlier = earlier; later = ms }) m × DoMarksCommit script steps step (earlier ++ m ∷ []) ms

abbrev pub DoStepsCommit : Script → List Step → List Step → Type 0
DoStepsCommit script before [] = Unit {0}
DoStepsCommit script before (s ∷ ss) = DoMarksCommit script before s [] s.marks × DoStepsCommit script (before ++ s ∷ []) ss
