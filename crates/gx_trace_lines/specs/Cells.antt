-- Cells, and the rows of answers.
use Rattle.std.specs.Prelude.{ℕ, ◌^◌, ℤ, List, [], ◌∷◌, ◌++◌, Option, codes}
use Rattle.gx_tree.specs.declared.cell.Cell.{Cell}
use Rattle.gx_tree.specs.declared.cell.Cell.TheVariants as cell
use Rattle.gx_report.specs.Text.{cells_text}
use Rattle.gx_trace.specs.Readers.{Front, behind, both, either, made, to_end, word}
use Rattle.gx_trace.specs.Values.{minus, negative, plus, positive, text, whole}

abbrev pub vast : List ℕ → Front ℤ
vast = whole (2 ^ 128) (2 ^ 127)

abbrev pub null_of : Unit {0} → Cell
null_of x = cell.Null

abbrev pub cell_at : List ℕ → Front Cell
cell_at bytes = either (made cell.Text (text bytes)) (either (made null_of (word (codes "null") bytes)) (made cell.Int (vast bytes)))

abbrev pub other_cell : List ℕ → Front Cell
other_cell = behind (codes "|") cell_at

abbrev pub joined : Cell × List Cell → List Cell
joined x = x.0 ∷ x.1

-- cells with bars between, to the end
abbrev pub cells : List ℕ → Front (List Cell)
cells bytes = made joined (both cell_at (to_end other_cell) bytes)

-- the line of an answer's row
abbrev pub out_row : List ℕ → Front (List Cell)
out_row = behind (codes "  ") cells

abbrev pub out_row_text : List Cell → List ℕ
out_row_text row = codes "  " ++ cells_text row
