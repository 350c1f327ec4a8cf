-- A journal item as bytes: lines, each ended by a line feed.
use Rattle.std.specs.Prelude.{ℕ, List, [], ◌∷◌, ◌++◌, length, codes, Option, None, Some}
use Rattle.std.specs.List.{flat_map}
use Rattle.std.specs.Fmt.{decimal, signed_decimal}
use Rattle.gx_ids.specs.Rid.{text_of}
use Rattle.gx_ids.specs.declared.ids.Gxid.{Gxid}
use Rattle.gx_text.specs.Quoted.{quoted}
use Rattle.gx_tree.specs.declared.value.Value.{Value}
use Rattle.gx_tree.specs.declared.value.Value.TheVariants.{Int, Text}
use Rattle.gx_msg.specs.declared.item.JournalItem.{JournalItem}
use Rattle.gx_msg.specs.declared.item.JournalItem.TheVariants.{Prepare, Commit, Finish, Decide, Abort, Forget}
use Rattle.gx_msg.specs.declared.item.Kept.{Kept}

-- a number in decimal, a text in single quotes
abbrev pub bytes_of_value : Value → List ℕ
bytes_of_value (Int z) = signed_decimal z
bytes_of_value (Text t) = quoted t

abbrev pub behind_bar : Value → List ℕ
behind_bar value = codes "|" ++ bytes_of_value value

-- the values with bars between
abbrev pub bytes_of_row : List Value → List ℕ
bytes_of_row [] = []
bytes_of_row (value ∷ values) = bytes_of_value value ++ flat_map behind_bar values

-- the row, or that it is gone
abbrev pub bytes_of_image : Option (List Value) → List ℕ
bytes_of_image None = codes "gone"
bytes_of_image (Some values) = bytes_of_row values

-- a row's line: its identity, its table and its image
abbrev pub line_of_kept : Kept → List ℕ
line_of_kept kept = text_of kept.rid ++ codes " " ++ decimal kept.table.0 ++ codes " " ++ bytes_of_image kept.image ++ codes "\n"

-- a transaction and the number of its rows on a line, and then the rows, each on its own
abbrev pub lines_of_rows : Gxid → List Kept → List ℕ
lines_of_rows gxid rows = decimal gxid.0 ++ codes " " ++ decimal (length rows) ++ codes "\n" ++ flat_map line_of_kept rows

abbrev pub bytes_of_item : JournalItem → List ℕ
bytes_of_item (Prepare gxid rows) = codes "prepare " ++ lines_of_rows gxid rows
bytes_of_item (Commit gxid rows) = codes "commit " ++ lines_of_rows gxid rows
bytes_of_item (Finish gxid) = codes "finish " ++ decimal gxid.0 ++ codes "\n"
bytes_of_item (Decide gxid) = codes "decide " ++ decimal gxid.0 ++ codes "\n"
bytes_of_item (Abort gxid) = codes "abort " ++ decimal gxid.0 ++ codes "\n"
bytes_of_item (Forget gxid) = codes "forget " ++ decimal gxid.0 ++ codes "\n"
