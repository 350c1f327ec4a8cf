-- Which line of bytes is the first with which no text goes on.
use Rattle.std.specs.Prelude.{◌≡◌, ℕ, ◌+◌, ◌==◌, Bool, List, [], ◌∷◌, ◌++◌, length, filter}
use Rattle.gx_script.specs.declared.Script.{Script}
use Rattle.gx_trace.specs.Lawful.{IsLine}
use Rattle.gx_trace.specs.Shown.{IsShown}
use Rattle.gx_trace.specs.ShownText.{shown_text}
use Rattle.gx_trace.specs.declared.seen.Seen.{Seen}

-- a text that shows something begins so
pub record BeginsText (script : Script) (front : List ℕ) : Type 0 where
  pub seen : Seen
  pub others : List ℕ
  pub is : IsShown script seen
  pub text : shown_text script seen ≡ front ++ others

-- no text goes on so behind the front, to the end of the next line; where no line ends any more, the bytes are no text
pub data EndsThere (script : Script) (front rest : List ℕ) : Type 0 where
  AtLine : (line more : List ℕ) → rest ≡ line ++ 10 ∷ more → IsLine line → (BeginsText script (front ++ (line ++ 10 ∷ [])) → ⊥) → EndsThere script front rest
  AtEnd : IsLine rest → ((seen : Seen) → IsShown script seen → front ++ rest ≡ shown_text script seen → ⊥) → EndsThere script front rest

abbrev pub is_feed : ℕ → Bool
is_feed b = b == 10

abbrev pub feeds : List ℕ → ℕ
feeds bytes = length (filter is_feed bytes)

-- what stands before this line, counted from 1, begins a text, and with the line none goes on
pub record IsFirstBad (script : Script) (bytes : List ℕ) (line : ℕ) : Type 0 where
  pub front : List ℕ
  pub rest : List ℕ
  pub parts : bytes ≡ front ++ rest
  pub at : feeds front + 1 ≡ line
  pub begins : BeginsText script front
  pub ends : EndsThere script front rest
