-- The one line that tells why a statement is refused.
use Rattle.std.specs.Prelude.{ℕ, List, ◌++◌, codes}
use Rattle.std.specs.Fmt.{decimal}
use Rattle.gx_ids.specs.Rid.{text_of as rid_text}
use Rattle.gx_ids.specs.declared.ids.Gxid.{Gxid}
use Rattle.gx_ids.specs.declared.ids.Node.{Node}
use Rattle.gx_ids.specs.declared.rid.Rid.{Rid}
use Rattle.gx_store.specs.declared.answer.Refused.{Refused}
use Rattle.gx_store.specs.declared.answer.Refused.TheVariants as refused

-- a number between two texts
abbrev pub numbered_text : List ℕ → ℕ → List ℕ → List ℕ
numbered_text before number behind = before ++ decimal number ++ behind

-- a row's identity behind a text
abbrev pub row_text : List ℕ → Rid → List ℕ
row_text before rid = before ++ rid_text rid

abbrev pub serialization_text : Rid → Gxid → List ℕ
serialization_text rid newer = row_text (codes "ERROR 1 serialization row ") rid ++ numbered_text (codes " changed by ") newer.0 (codes "\n")

abbrev pub victim_text : ℕ → List ℕ
victim_text round = numbered_text (codes "ERROR 2 victim of round ") round (codes "\n")

abbrev pub journal_text : Node → List ℕ
journal_text node = numbered_text (codes "ERROR 6 journal of node ") node.0 (codes " failed\n")

abbrev pub restarted_text : Node → List ℕ
restarted_text segment = numbered_text (codes "ERROR 8 segment ") segment.0 (codes " restarted\n")

abbrev pub error_text : Refused → List ℕ
error_text (refused.Serialization rid newer) = serialization_text rid newer
error_text (refused.Victim round) = victim_text round
error_text refused.Overflow = codes "ERROR 3 overflow\n"
error_text refused.DivisionByZero = codes "ERROR 4 division by zero\n"
error_text refused.InFailedBlock = codes "ERROR 5 block has failed\n"
error_text (refused.JournalFault node) = journal_text node
error_text refused.NotInBlock = codes "ERROR 7 not in a block\n"
error_text (refused.Restarted segment) = restarted_text segment
