use Rattle.gx_rules.specs.Changes.{goes_through}
use Rattle.gx_slices.specs.Changing.{change_in}
use Rattle.gx_slices.proofs.changing_rows.go_on_at.Given as goal

abbrev pub ghost-go_from : goal.ghost-go_from
ghost-go_from g a = record { stage = record { found = g.found; first = a.held.now; moved = record { seg = g.found.start; marks = a.marks.items } }; turn = goes_through a.change.writer.gxid (change_in a.change) a.rids.now (record { seg = g.found.start; marks = a.marks.items }) a.count }
