-- What changes when lines of a session are started and answered.
use Rattle.std.specs.Prelude.{◌≡◌, ℕ, ◌+◌, ◌<◌, ◌^◌, ◌==◌, Bool, false, if◌then◌else◌, List, slice_get, slice_set, Some, None}
use Rattle.std.specs.declared.option.Option.{Option}
use Rattle.gx_ids.specs.declared.ids.SessionId.{SessionId}
use Rattle.gx_store.specs.declared.event.Event.{Event}
use Rattle.gx_store.specs.declared.event.Event.TheVariants as event
use Rattle.gx_store.specs.declared.mark.Mark.{Mark}
use Rattle.gx_store.specs.declared.mark.Mark.TheVariants as mark
use Rattle.gx_store.specs.Marks.{is_same_session}
use Rattle.gx_agenda.specs.declared.standing.Move.{Move}
use Rattle.gx_agenda.specs.declared.standing.Standing.{Standing}

-- COUNTS
-- so many more for one session
abbrev pub more_for : SessionId → ℕ → (SessionId → ℕ) → SessionId → ℕ
more_for session count counts s = counts s + (if is_same_session session s then count else 0)

-- no count is near to what a counter holds
abbrev pub AreFew : (SessionId → ℕ) → Type 0
AreFew counts = (session : SessionId) → counts session < 2 ^ 62

-- the session of which an event starts a line
abbrev pub session_started : Event → Option SessionId
session_started (event.Start session) = Some session
session_started _ = None

-- the session of which a mark answers a line
abbrev pub session_answered : Mark → Option SessionId
session_answered (mark.Answer session number answer) = Some session
session_answered _ = None

-- PLACES
-- the place of the next line of a session that is idle
abbrev pub next_place : Standing → Option ℕ
next_place standing = if standing.started == standing.answered then slice_get standing.places standing.started else None

abbrev pub is_place : Option ℕ → ℕ → Bool
is_place None place = false
is_place (Some there) place = place == there

-- what stands at a place once nothing stands at this one any more
abbrev pub withdrawn : Option ℕ → (ℕ → Option SessionId) → ℕ → Option SessionId
withdrawn from next place = if is_place from place then None else next place

-- and once the session stands at this one
abbrev pub offered : Option ℕ → SessionId → (ℕ → Option SessionId) → ℕ → Option SessionId
offered to session next place = if is_place to place then Some session else next place

-- a session's counts rise, and the move says where its next line stood and where it stands
pub record IsAdvanced (was is : Standing) (starts answers : ℕ) (move : Move) : Type 0 where
  pub places : is.places ≡ was.places
  pub starts_rise : was.started + starts < 2 ^ 64 → is.started ≡ was.started + starts
  pub answers_rise : was.answered + answers < 2 ^ 64 → is.answered ≡ was.answered + answers
  pub from : move.from ≡ next_place was
  pub to : move.to ≡ next_place is

-- the same of the session of a number, among all
pub record IsAdvancedAt (number : ℕ) (old new : List Standing) (was : Standing) (starts answers : ℕ) (move : Move) : Type 0 where
  pub is : Standing
  pub set : new ≡ slice_set old number is
  pub advanced : IsAdvanced was is starts answers move
