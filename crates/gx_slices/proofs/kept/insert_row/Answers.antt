use Rattle.std.proofs.Common.{◌∙◌, ap}
use Rattle.gx_slices.specs.Kept.{listed}
use Rattle.gx_slices.proofs.Placing.{listed-insert_entry}
use Rattle.gx_slices.proofs.kept.insert_row.Goals as goal

pub returns : goal.returns
returns c = ap listed c.in_ok-insert.ensures.entries ∙ listed-insert_entry c.args.rid c.args.last c.args.rows.now.entries
