use Rattle.gx_detect.proofs.Told.{in_any_order}
use Rattle.gx_detect.proofs.laws.segments_report_in_any_order.Goals as goal

pub returns : goal.returns
returns c = in_any_order
