use Rattle.gx_rules.specs.Changes.{goes_through}
use Rattle.gx_slices.specs.Changing.{change_in}
use Rattle.gx_slices.proofs.changing_rows.change_kept.Given as goal

abbrev pub ghost-go_from : goal.ghost-go_from
ghost-go_from g a = record { stage = g.stage; turn = goes_through a.change.writer.gxid (change_in a.change) a.rids.now g.stage.moved a.count }
