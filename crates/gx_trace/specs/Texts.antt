-- The texts of fields.
use Rattle.std.specs.Prelude.{ℕ, List}
use Rattle.gx_ids.specs.Rid.{text_of as rid_text}
use Rattle.gx_ids.specs.declared.rid.Rid.{Rid}
use Rattle.gx_report.specs.Words.{word_text}

abbrev pub rid_word : Rid → List ℕ
rid_word rid = word_text (rid_text rid)
