-- The run that a trace shows: each answer in its mark, and in each message what printing cut off and what is legal asks for. That a segment has
-- failed is told with the cause for which its command is refused; of DONE nothing but its transaction and its command is asked for; the other
-- messages aren't looked into.
use Rattle.std.specs.Prelude.{ℕ, zero, suc, ◌==◌, Bool, true, false, if◌then◌else◌, List, [], ◌∷◌, ◌++◌, slice_get, unwrap_or, map, Option, Some, None, codes}
use Rattle.std.specs.Option.{option_map, option_or}
use Rattle.std.specs.List.{flat_map}
use Rattle.gx_ids.specs.declared.ids.Cid.{Cid}
use Rattle.gx_ids.specs.declared.ids.Gxid.{Gxid}
use Rattle.gx_ids.specs.declared.ids.Node.{Node}
use Rattle.gx_ids.specs.declared.ids.SessionId.{SessionId}
use Rattle.gx_tree.specs.declared.part.Part.TheVariants as part
use Rattle.gx_msg.specs.declared.message.Message.{Message}
use Rattle.gx_msg.specs.declared.message.Message.TheVariants as message
use Rattle.gx_msg.specs.declared.reply.Cause.{Cause}
use Rattle.gx_msg.specs.declared.reply.Cause.TheVariants as cause
use Rattle.gx_msg.specs.declared.reply.Reply.{Reply}
use Rattle.gx_msg.specs.declared.reply.Reply.TheVariants as reply
use Rattle.gx_store.specs.declared.answer.Refused.TheVariants as refused
use Rattle.gx_store.specs.declared.answer.StmtAnswer.{StmtAnswer}
use Rattle.gx_store.specs.declared.answer.StmtAnswer.TheVariants.{Refused}
use Rattle.gx_store.specs.declared.mark.Mark.{Mark}
use Rattle.gx_store.specs.declared.mark.Mark.TheVariants as mark
use Rattle.gx_store.specs.declared.run.Step.{Step}
use Rattle.gx_store.specs.Marks.{is_same_gxid}
use Rattle.gx_trace.specs.Fields.{count}
use Rattle.gx_trace.specs.Readers.{Front}
use Rattle.gx_trace.specs.declared.seen.Seen.{Seen}
use Rattle.gx_trace.specs.declared.seen.SeenAnswer.{SeenAnswer}
use Rattle.gx_trace.specs.declared.seen.SeenMark.{SeenMark}
use Rattle.gx_trace.specs.declared.seen.SeenMark.TheVariants as seen
use Rattle.gx_trace.specs.declared.seen.SeenStep.{SeenStep}
use Rattle.gx_trace_lines.specs.Messages.{commanded, numbered}

-- ANSWERS
-- a session's, in their order
abbrev pub answers_of : ℕ → List SeenAnswer → List StmtAnswer
answers_of session [] = []
answers_of session (said ∷ answers) = if said.session.0 == session then said.answer ∷ answers_of session answers else answers_of session answers

-- the one of this number, from 1
abbrev pub nth_answer : List StmtAnswer → ℕ → Option StmtAnswer
nth_answer answers zero = None
nth_answer answers (suc n) = slice_get answers n

-- the answer to a line of a session
abbrev pub answer_to : List SeenAnswer → SessionId → ℕ → Option StmtAnswer
answer_to answers session number = nth_answer (answers_of session.0 answers) number

-- CAUSES
-- for what a segment has failed, where the line is refused for that
abbrev pub cause_of : Option StmtAnswer → Option Cause
cause_of (Some (Refused (refused.Serialization rid newer))) = Some (cause.Serialization rid newer)
cause_of (Some (Refused refused.Overflow)) = Some cause.Overflow
cause_of (Some (Refused refused.DivisionByZero)) = Some cause.DivisionByZero
cause_of _ = None

-- a refusal behind the abort of a transaction is that transaction's
abbrev pub refusal_behind : Option Gxid → Option Cause → Option (Gxid × Cause)
refusal_behind None why = None
refusal_behind (Some g) None = None
refusal_behind (Some g) (Some why) = Some (g, why)

abbrev pub with_refusal : Gxid → Option Cause → Option (Gxid × Cause) → Option Cause
with_refusal g was None = was
with_refusal g was (Some refusal) = if is_same_gxid refusal.0 g then Some refusal.1 else was

-- The line of a transaction that has aborted is refused behind that, before another aborts: so goes its cause, by the marks of a run.
abbrev pub cause_from : (SessionId → ℕ → Option StmtAnswer) → Gxid → Option Cause → Option Gxid → List SeenMark → Option Cause
cause_from said g was aborted [] = was
cause_from said g was aborted (seen.Whole (mark.Abort h) ∷ ms) = cause_from said g was (Some h) ms
cause_from said g was aborted (seen.Answer session number ∷ ms) = cause_from said g (with_refusal g was (refusal_behind aborted (cause_of (said session number)))) aborted ms
cause_from said g was aborted (_ ∷ ms) = cause_from said g was aborted ms

abbrev pub marks_seen : List SeenStep → List SeenMark
marks_seen steps = flat_map (λ step. step.marks) steps

abbrev pub cause_in : Seen → Gxid → Option Cause
cause_in shown g = cause_from (answer_to shown.answers) g None None (marks_seen shown.steps)

-- MESSAGES
-- what was read to the end
abbrev pub all_of : {A : Type 0} → Front A → Option A
all_of None = None
all_of (Some (a, [])) = Some a
all_of (Some (a, b ∷ bs)) = None

abbrev pub done_of : Gxid × Cid → Message
done_of command = message.Answer command.0 (reply.Done command.1 false 0 (part.Rows []))

abbrev pub failed_of : (Gxid → Option Cause) → Gxid × Cid → Message
failed_of causes command = message.Answer command.0 (reply.Failed command.1 (unwrap_or (causes command.0) cause.Overflow))

abbrev pub fault_of : ℕ → Message
fault_of number = message.Answer (record { 0 = number }) reply.Jfault

-- a message that nothing is asked of
abbrev pub other : Message
other = message.Collect 0

-- by its name and its numbers
abbrev pub message_of : (Gxid → Option Cause) → List ℕ → Message
message_of causes text =
    unwrap_or (option_or (option_map done_of (all_of (commanded (codes "done") text)))
    (option_or (option_map (failed_of causes) (all_of (commanded (codes "failed") text))) (option_map fault_of (all_of (numbered (codes "jfault") text))))) other

-- THE RUN
abbrev pub filled_mark : (SessionId → ℕ → Option StmtAnswer) → (Gxid → Option Cause) → SeenMark → Mark
filled_mark said causes (seen.Whole m) = m
filled_mark said causes (seen.Sent to number text) = mark.Sent to number (message_of causes text)
filled_mark said causes (seen.Answer session number) = mark.Answer session number (unwrap_or (said session number) (Refused refused.NotInBlock))

abbrev pub filled_step : (SessionId → ℕ → Option StmtAnswer) → (Gxid → Option Cause) → SeenStep → Step
filled_step said causes step = record { stamp = step.stamp; event = step.event; marks = map (filled_mark said causes) step.marks }

abbrev pub filled : Seen → List Step
filled shown = map (filled_step (answer_to shown.answers) (cause_in shown)) shown.steps
