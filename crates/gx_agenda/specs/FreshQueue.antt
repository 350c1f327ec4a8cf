-- Sessions of which nothing was done.
use Rattle.std.specs.Prelude.{◌≡◌, ℕ, List, [], ◌∷◌, ◌++◌, length, slice_get, Some}
use Rattle.gx_ids.specs.declared.ids.SessionId.{SessionId}
use Rattle.gx_script.specs.declared.Line.{Line}
use Rattle.gx_store.specs.Language.{lines_in}
use Rattle.gx_agenda.specs.declared.standing.Standing.{Standing}
use Rattle.gx_agenda.specs.LinePlaces.{ArePlaces}

-- a session without lines
abbrev pub new_standing : Standing
new_standing = record { places = []; started = 0; answered = 0 }

-- with the place of one line more
abbrev pub with_place : Standing → ℕ → Standing
with_place standing place = record standing { places = standing.places ++ place ∷ [] }

-- the places of all of the session's lines among these
pub record IsFresh (lines : List Line) (session : SessionId) (standing : Standing) : Type 0 where
  pub places : ArePlaces lines session standing.places
  pub count : length standing.places ≡ lines_in session.0 lines
  pub starts : standing.started ≡ 0
  pub answers : standing.answered ≡ 0

-- so many sessions, by their numbers
pub record AreFresh (lines : List Line) (sessions : ℕ) (standings : List Standing) : Type 0 where
  pub whole : length standings ≡ sessions
  pub each : (session : SessionId) (standing : Standing) → slice_get standings session.0 ≡ Some standing → IsFresh lines session standing
