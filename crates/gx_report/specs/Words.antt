-- Words, numbers and names in the lines of a trace, with blanks between.
use Rattle.std.specs.Prelude.{ℕ, List, [], ◌∷◌, ◌++◌, codes, slice_get, unwrap_or, Some, None}
use Rattle.std.specs.List.{flat_map}
use Rattle.std.specs.Fmt.{decimal}
use Rattle.std.specs.declared.option.Option.{Option}
use Rattle.gx_ids.specs.Rid.{text_of as rid_text}
use Rattle.gx_ids.specs.declared.ids.Gxid.{Gxid}
use Rattle.gx_ids.specs.declared.ids.Node.{Node}
use Rattle.gx_ids.specs.declared.ids.SessionId.{SessionId}
use Rattle.gx_ids.specs.declared.ids.Table.{Table}
use Rattle.gx_ids.specs.declared.rid.Rid.{Rid}
use Rattle.gx_tree.specs.declared.schema.Schema.{Schema}
use Rattle.gx_tree.specs.declared.value.Value.{Value}
use Rattle.gx_msg.specs.ItemBytes.{bytes_of_image}
use Rattle.gx_script.specs.declared.Script.{Script}

abbrev pub word_text : List ℕ → List ℕ
word_text word = codes " " ++ word

abbrev pub number_text : ℕ → List ℕ
number_text number = word_text (decimal number)

-- a word, and numbers behind it
abbrev pub words_text : List ℕ → List ℕ → List ℕ
words_text word numbers = word ++ flat_map number_text numbers

abbrev pub gxid_text : Gxid → List ℕ
gxid_text gxid = number_text gxid.0

-- a word, and a node and a transaction behind it
abbrev pub at_node_text : List ℕ → Node → Gxid → List ℕ
at_node_text word node gxid = words_text word (node.0 ∷ gxid.0 ∷ [])

-- the name of the session of this number; a number that the script lacks has none
abbrev pub session_name : Script → SessionId → List ℕ
session_name script session = unwrap_or (slice_get script.sessions session.0) []

abbrev pub name_of_schema : Option Schema → List ℕ
name_of_schema None = []
name_of_schema (Some schema) = schema.name

-- the name of the table of this number; a number that the script lacks has none
abbrev pub table_name : Script → Table → List ℕ
table_name script table = name_of_schema (slice_get script.tables table.0)

-- a row's identity and its image
abbrev pub image_text : Rid → Option (List Value) → List ℕ
image_text rid image = word_text (rid_text rid) ++ word_text (bytes_of_image image)
