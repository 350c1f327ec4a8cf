-- The lines of each session, by their places in the script.
use Rattle.std.specs.Prelude.{◌≡◌, ℕ, ◌+◌, ◌==◌, if◌then◌else◌, List, [], ◌∷◌, length, slice_get, Some, None}
use Rattle.std.specs.declared.option.Option.{Option}
use Rattle.gx_script.specs.declared.Line.{Line}

-- the places of a session's lines in a list of lines, where the list's first line has this place
abbrev pub places_from : ℕ → ℕ → List Line → List ℕ
places_from session place [] = []
places_from session place (l ∷ ls) = if l.session.0 == session then place ∷ places_from session (place + 1) ls else places_from session (place + 1) ls

-- for each of so many sessions the places of its lines
pub record AreIndexed (lines : List Line) (sessions : ℕ) (places : List (List ℕ)) : Type 0 where
  pub all : length places ≡ sessions
  pub each : (k : ℕ) (ps : List ℕ) → slice_get places k ≡ Some ps → ps ≡ places_from k 0 lines

-- the place at an index in the list at a place
abbrev pub at_index : ℕ → Option (List ℕ) → Option ℕ
at_index index None = None
at_index index (Some own) = slice_get own index
