use Rattle.gx_law_lone.proofs.Askers.{groups-open}
use Rattle.gx_law_lone.proofs.victims.groups_hold_up_openings.Goals as goal

pub returns : goal.returns
returns c = λ script language inserts. groups-open script language inserts
