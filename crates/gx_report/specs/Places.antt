-- Where the answers of each session stand in a run, and their texts found there.
use Rattle.std.specs.Prelude.{◌≡◌, ◌<◌, ℕ, ◌+◌, ◌==◌, if◌then◌else◌, List, [], ◌∷◌, ◌++◌, length, slice_get, unwrap_or, Some, None}
use Rattle.std.specs.declared.option.Option.{Option}
use Rattle.gx_store.specs.declared.mark.Mark.{Mark}
use Rattle.gx_store.specs.declared.mark.Mark.TheVariants.{Answer}
use Rattle.gx_store.specs.declared.run.Step.{Step}
use Rattle.gx_report.specs.Text.{line_text}
use Rattle.gx_report.specs.declared.places.Place.{Place}

-- the place of a mark, where it is an answer of this session
abbrev pub place_in : ℕ → Place → Mark → List Place
place_in session place (Answer s number said) = if s.0 == session then place ∷ [] else []
place_in session place _ = []

-- the places of a session's answers among the marks of a step, from the mark of this number on
abbrev pub places_among : ℕ → ℕ → ℕ → List Mark → List Place
places_among session step mark [] = []
places_among session step mark (m ∷ ms) = place_in session (record { step = step; mark = mark }) m ++ places_among session step (mark + 1) ms

-- the places of a session's answers among steps, from the step of this number on
abbrev pub places_of : ℕ → ℕ → List Step → List Place
places_of session step [] = []
places_of session step (s ∷ ss) = places_among session step 0 s.marks ++ places_of session (step + 1) ss

-- the places of the session of this number
abbrev pub nth_places : List (List Place) → ℕ → List Place
nth_places index session = unwrap_or (slice_get index session) []

-- each session has its places among the steps
pub record ArePlaces (sessions : ℕ) (steps : List Step) (index : List (List Place)) : Type 0 where
  pub whole : length index ≡ sessions
  pub places : (session : ℕ) → session < sessions → nth_places index session ≡ places_of session 0 steps

-- each session has these places besides those that it had
pub record IsNoted (old new : List (List Place)) (more : ℕ → List Place) : Type 0 where
  pub whole : length new ≡ length old
  pub places : (session : ℕ) → session < length old → nth_places new session ≡ nth_places old session ++ more session

-- the text of an answer behind its session's name; other marks have none
abbrev pub said_by : List ℕ → Option Mark → List ℕ
said_by name (Some (Answer s number said)) = line_text name number said
said_by name _ = []

abbrev pub said_in : List ℕ → ℕ → Option Step → List ℕ
said_in name mark None = []
said_in name mark (Some step) = said_by name (slice_get step.marks mark)

-- the text of the answer at a place
abbrev pub text_at : List ℕ → List Step → Place → List ℕ
text_at name steps place = said_in name place.mark (slice_get steps place.step)
