-- The answers that a text shows, as they are kept by session.
use Rattle.std.specs.Prelude.{◌≡◌, ◌<◌, ℕ, List, [], length, slice_get, unwrap_or, Option, Some, None}
use Rattle.std.specs.BTreeMap.{get}
use Rattle.gx_dsnap.specs.Gxids.{gxid_cmp}
use Rattle.gx_ids.specs.declared.ids.Gxid.{Gxid}
use Rattle.gx_ids.specs.declared.ids.SessionId.{SessionId}
use Rattle.gx_msg.specs.declared.reply.Cause.{Cause}
use Rattle.gx_store.specs.declared.answer.StmtAnswer.{StmtAnswer}
use Rattle.gx_script.specs.declared.Script.{Script}
use Rattle.gx_store.specs.declared.mark.Mark.{Mark}
use Rattle.gx_store.specs.Marks.{answer_count}
use Rattle.gx_judging.specs.Filled.{nth_answer}
use Rattle.gx_judging.specs.declared.answers.Answers.{Answers}
use Rattle.gx_judging.specs.declared.causes.Causes.{Causes}

abbrev pub answers_at : List (List StmtAnswer) → ℕ → List StmtAnswer
answers_at lists session = unwrap_or (slice_get lists session) []

abbrev pub answer_at : Answers → SessionId → ℕ → Option StmtAnswer
answer_at answers session number = nth_answer (answers_at answers.by_session.items session.0) number

-- the cause that is kept of a transaction
abbrev pub cause_at : Causes → Gxid → Option Cause
cause_at causes g = get gxid_cmp causes.by_gxid g

-- each session has as many marks of answers as answers are kept
abbrev pub AreCounted : Script → Answers → List Mark → Type 0
AreCounted script answers marks = (session : SessionId) → session.0 < length script.sessions → answer_count session marks ≡ length (answers_at answers.by_session.items session.0)
