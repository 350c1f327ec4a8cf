-- A queue that agrees with the steps of a run.
use Rattle.std.specs.Prelude.{◌≡◌, ℕ, ◌+◌, ◌<◌, ◌^◌, ◌==◌, ◌&&◌, Bool, if◌then◌else◌, List, length, slice_get, Some, None}
use Rattle.std.specs.declared.option.Option.{Option}
use Rattle.std.specs.Ordering.{nat_cmp}
use Rattle.gx_ids.specs.declared.ids.SessionId.{SessionId}
use Rattle.gx_script.specs.declared.Line.{Line}
use Rattle.gx_script.specs.declared.Script.{Script}
use Rattle.gx_store.specs.declared.run.Step.{Step}
use Rattle.gx_store.specs.Marks.{answer_count}
use Rattle.gx_store.specs.Points.{marks_in, starts_in}
use Rattle.gx_agenda.specs.declared.queue.Queue.{Queue}
use Rattle.gx_agenda.specs.declared.standing.Standing.{Standing}
use Rattle.gx_agenda.specs.LinePlaces.{ArePlaces}
use Rattle.gx_agenda.specs.VecMap.{at}

-- By how many lines of each session were started and how many were answered: the session of the line is idle, and the line is
-- its next. With the counts of steps this is `is_next`.
abbrev pub is_due : (SessionId → ℕ) → (SessionId → ℕ) → Line → Bool
is_due started answered line = (started line.session == answered line.session) && (line.number == started line.session + 1)

-- the session whose next line this is
abbrev pub session_due : (SessionId → ℕ) → (SessionId → ℕ) → Option Line → Option SessionId
session_due started answered None = None
session_due started answered (Some line) = if is_due started answered line then Some line.session else None

-- a session's places and counts
pub record IsStanding (lines : List Line) (session : SessionId) (started answered : ℕ) (standing : Standing) : Type 0 where
  pub places : ArePlaces lines session standing.places
  pub starts : standing.started ≡ started
  pub answers : standing.answered ≡ answered

-- each session that has lines is known, with its counts, and the map holds at each place of the file exactly the session whose
-- next line stands there
pub record AreQueuedBy (lines : List Line) (started answered : SessionId → ℕ) (queue : Queue) : Type 0 where
  pub known : (place : ℕ) (line : Line) → slice_get lines place ≡ Some line → line.session.0 < length queue.standings.items
  pub each : (session : SessionId) (standing : Standing) → slice_get queue.standings.items session.0 ≡ Some standing → IsStanding lines session (started session) (answered session) standing
  pub next : (place : ℕ) → at nat_cmp queue.next place ≡ session_due started answered (slice_get lines place)

-- nothing was done: by place, the sessions whose first lines stand there
abbrev pub AreFirst : List Line → List (ℕ × SessionId) → Type 0
AreFirst lines next = (place : ℕ) → at nat_cmp next place ≡ session_due (λ session. 0) (λ session. 0) (slice_get lines place)

-- the queue is as the script and the steps have it
abbrev pub AreQueued : Script → List Step → Queue → Type 0
AreQueued script steps queue = AreQueuedBy script.lines (λ session. starts_in session steps) (λ session. answer_count session (marks_in steps)) queue

-- no session has so many lines started or answered that a counter has no room for one more
pub record AreCounted (steps : List Step) : Type 0 where
  pub starts : (session : SessionId) → starts_in session steps < 2 ^ 62
  pub answers : (session : SessionId) → answer_count session (marks_in steps) < 2 ^ 62
