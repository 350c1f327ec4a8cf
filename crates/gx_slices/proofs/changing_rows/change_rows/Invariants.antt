use Rattle.gx_rules.specs.Slices.{starts_from}
use Rattle.gx_slices.proofs.changing_rows.change_rows.Given as goal

abbrev pub ghost-pick_shown : goal.ghost-pick_shown
ghost-pick_shown g a = g.found

abbrev pub ghost-change_picked : goal.ghost-change_picked
ghost-change_picked g a = record { found = g.found; first = a.held.now; moved = starts_from g.found.start }
