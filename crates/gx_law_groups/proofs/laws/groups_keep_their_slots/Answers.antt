use Rattle.gx_law_groups.proofs.Runs.{keeps-slots}
use Rattle.gx_law_groups.proofs.laws.groups_keep_their_slots.Goals as goal

pub returns : goal.returns
returns c = λ script steps language legal let_in. keeps-slots script language steps legal let_in
