use Rattle.std.proofs.Common.{◌≡◌, List, [], ◌∷◌, ◌++◌, length, map, codes, refl, ap, arith}
use Rattle.std.specs.Fmt.{decimal}
use Rattle.std.specs.List.{flat_map}
use Rattle.std.proofs.lemmas.Grind.{common_steps}
use Rattle.gx_report.specs.Text.{keyed_line}
use Rattle.gx_trace.specs.ShownText.{row_of, value_line}
use Rattle.gx_tree.specs.declared.row.KeyedRow.{KeyedRow}
use Rattle.gx_trace.proofs.tables.tables_are_shown_by_their_rows.Goals as goal

lines : (rows : List KeyedRow) → flat_map value_line (map row_of rows) ≡ flat_map keyed_line rows
lines [] = refl
lines (row ∷ rows) = ap (λ x. keyed_line row ++ x) (lines rows)

count : (rows : List KeyedRow) → length (map row_of rows) ≡ length rows
count rows = grind (arith, common_steps)

pub returns : goal.returns
returns c = λ name rows i. codes "table " ++ name ++ codes " " ++ decimal (count rows i) ++ codes "\n" ++ lines rows i
