use Rattle.gx_work.proofs.Whole.{drawn_read}
use Rattle.gx_work.proofs.laws.drawn_work_is_a_script.Goals as goal

pub returns : goal.returns
returns c = drawn_read
