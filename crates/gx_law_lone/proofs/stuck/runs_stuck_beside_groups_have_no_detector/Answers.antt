use Rattle.gx_law_lone.proofs.NeverStuck.{stuck-beside-groups}
use Rattle.gx_law_lone.proofs.stuck.runs_stuck_beside_groups_have_no_detector.Goals as goal

pub returns : goal.returns
returns c = λ script steps session language inserts is a l unfinished nothing. stuck-beside-groups script steps session language inserts is a l unfinished nothing
