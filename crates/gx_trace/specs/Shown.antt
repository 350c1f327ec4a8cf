-- What the text and the trace of a run may show that came to its end.
use Rattle.std.specs.Prelude.{◌≡◌, ℕ, ◌+◌, ◌^◌, ◌<◌, List, [], ◌∷◌, ◌++◌, length, map, All}
use Rattle.std.specs.List.{range_with_len}
use Rattle.gx_tree.specs.declared.schema.Kind.{Kind}
use Rattle.gx_tree.specs.declared.schema.Column.{Column}
use Rattle.gx_tree.specs.declared.schema.Schema.{Schema}
use Rattle.gx_tree.specs.declared.value.Value.{Value}
use Rattle.gx_meaning.specs.Kinds.{kinds_of}
use Rattle.gx_script.specs.declared.Line.{Line}
use Rattle.gx_script.specs.declared.Script.{Script}
use Rattle.gx_store.specs.Language.{lines_in}
use Rattle.gx_trace.specs.Lawful.{IsAnswer, IsEvent, IsNode, IsSeenMark, IsValue}
use Rattle.gx_trace.specs.declared.seen.Seen.{Seen}
use Rattle.gx_trace.specs.declared.seen.SeenAnswer.{SeenAnswer}
use Rattle.gx_trace.specs.declared.seen.SeenStep.{SeenStep}

-- ANSWERS
-- a session and the number of its line
abbrev pub place_of : SeenAnswer → ℕ × ℕ
place_of seen = (seen.session.0, seen.number)

-- a session's lines, from 1
abbrev pub places_in : List Line → ℕ → List (ℕ × ℕ)
places_in lines session = map (λ number. (session, number)) (range_with_len 1 (lines_in session lines))

-- those of each session, from the one of this place on
abbrev pub all_places : List Line → ℕ → List (List ℕ) → List (ℕ × ℕ)
all_places lines session [] = []
all_places lines session (name ∷ names) = places_in lines session ++ all_places lines (session + 1) names

-- TABLES
abbrev pub kind_of : Column → Kind
kind_of column = column.kind

-- a value for each column, of its kind
pub record IsRowOf (schema : Schema) (row : List Value) : Type 0 where
  pub kinds : kinds_of row ≡ map kind_of schema.columns
  pub values : All IsValue row

-- a list of rows for each table
abbrev pub AreTables : List Schema → List (List (List Value)) → Type 0
AreTables [] [] = Unit {0}
AreTables (s ∷ ss) (rows ∷ tables) = (length rows < 2 ^ 64) × All (IsRowOf s) rows × AreTables ss tables
AreTables _ _ = ⊥

-- STEPS
pub record IsSeenStep (script : Script) (step : SeenStep) : Type 0 where
  pub clock : step.stamp.clock < 2 ^ 64
  pub node : IsNode step.stamp.node
  pub event : IsEvent script step.event
  pub marks : All (IsSeenMark script) step.marks

-- each session has all its answers, from 1; each table its rows, of its kinds; and names, numbers and texts are such as are printed
pub record IsShown (script : Script) (seen : Seen) : Type 0 where
  pub whole : map place_of seen.answers ≡ all_places script.lines 0 script.sessions
  pub answers : All (λ said. IsAnswer said.answer) seen.answers
  pub tables : AreTables script.tables seen.tables
  pub count : length seen.steps < 2 ^ 64
  pub steps : All (IsSeenStep script) seen.steps
