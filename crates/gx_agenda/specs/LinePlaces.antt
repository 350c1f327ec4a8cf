-- The places of a session's lines in a file.
use Rattle.std.specs.Prelude.{◌≡◌, ℕ, ◌+◌, List, slice_get, Some}
use Rattle.gx_ids.specs.declared.ids.SessionId.{SessionId}
use Rattle.gx_script.specs.declared.Line.{Line}

-- the session's line of a number stands at the place
pub record IsLineAt (lines : List Line) (session : SessionId) (n place : ℕ) : Type 0 where
  pub line : Line
  pub there : slice_get lines place ≡ Some line
  pub of : line.session.0 ≡ session.0
  pub number : line.number ≡ n

-- the line is the one whose place stands at an index: its number is one more
pub record HasPlace (places : List ℕ) (line : Line) (place : ℕ) : Type 0 where
  pub index : ℕ
  pub number : line.number ≡ index + 1
  pub there : slice_get places index ≡ Some place

-- the session's lines stand at these places, in the order of their numbers, which begin at 1
pub record ArePlaces (lines : List Line) (session : SessionId) (places : List ℕ) : Type 0 where
  pub lines_at : (index place : ℕ) → slice_get places index ≡ Some place → IsLineAt lines session (index + 1) place
  pub all : (place : ℕ) (line : Line) → slice_get lines place ≡ Some line → line.session.0 ≡ session.0 → HasPlace places line place
