-- Whether what a text shows beside the steps is what the run comes to: each line's answer has its mark, and the tables are what nobody's
-- transaction is shown at the end.
use Rattle.std.specs.Prelude.{◌≡◌, ℕ, ◌+◌, ◌<◌, List, [], ◌∷◌, length, map, None}
use Rattle.gx_ids.specs.declared.ids.SessionId.{SessionId}
use Rattle.gx_ids.specs.declared.ids.Table.{Table}
use Rattle.gx_tree.specs.declared.row.KeyedRow.{KeyedRow}
use Rattle.gx_tree.specs.declared.value.Value.{Value}
use Rattle.gx_script.specs.declared.Script.{Script}
use Rattle.gx_store.specs.declared.mark.Mark.{Mark}
use Rattle.gx_store.specs.Marks.{answer_count}
use Rattle.gx_store.specs.View.{IsView}
use Rattle.gx_trace.specs.ShownText.{row_of}
use Rattle.gx_trace.specs.declared.seen.SeenAnswer.{SeenAnswer}
use Rattle.gx_judging.specs.Filled.{answers_of}

-- each session has as many marks of answers as answers
abbrev pub AreAnswered : Script → List SeenAnswer → List Mark → Type 0
AreAnswered script answers marks = (session : SessionId) → session.0 < length script.sessions → answer_count session marks ≡ length (answers_of session.0 answers)

-- the rows, without their identities, are those of the table at the end
pub record IsTableShown (marks : List Mark) (table : Table) (shown : List (List Value)) : Type 0 where
  pub rows : List KeyedRow
  pub view : IsView marks marks None table rows
  pub same : map row_of rows ≡ shown

-- the tables from the one of this number on
abbrev pub AreShownFrom : ℕ → List Mark → List (List (List Value)) → Type 0
AreShownFrom k marks [] = Unit {0}
AreShownFrom k marks (shown ∷ tables) = IsTableShown marks (record { 0 = k }) shown × AreShownFrom (k + 1) marks tables

abbrev pub AreTablesShown : Script → List Mark → List (List (List Value)) → Type 0
AreTablesShown script marks tables = (length tables ≡ length script.tables) × AreShownFrom 0 marks tables
