-- Writes to a row, as the code finds them.
use Rattle.std.specs.Prelude.{Bool, not, List, Some, None}
use Rattle.std.specs.declared.option.Option.{Option}
use Rattle.gx_ids.specs.declared.ids.Gxid.{Gxid}
use Rattle.gx_ids.specs.declared.ids.Cid.{Cid}
use Rattle.gx_store.specs.declared.mark.Mark.{Mark}
use Rattle.gx_store.specs.Marks.{is_aborted}
use Rattle.gx_store.specs.View.{is_shown_to}
use Rattle.gx_store.specs.Writes.{Written}
use Rattle.gx_legal.specs.declared.writing.Writing.{Writing}

abbrev pub written_of : Writing → Written
written_of w = record { place = w.place; gxid = w.gxid; cid = w.cid; image = w.image.now }

-- which writes count: those that the reader is shown, or with no reader those whose transactions haven't aborted
abbrev pub counts_for : Option (Gxid × Cid) → List Mark → Gxid → Cid → Bool
counts_for None before g c = not (is_aborted before g)
counts_for (Some own) before g c = is_shown_to (Some own) before g c
