use Rattle.std.proofs.Common.{sym}
use Rattle.gx_slices.proofs.Going.{rid-read}
use Rattle.gx_slices.proofs.changing_rows.row_at.Goals as goal

pub returns : goal.returns
returns c = sym (rid-read c.args.rids.now c.args.index c.requires _)
