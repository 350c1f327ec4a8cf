use Rattle.gx_work.proofs.Whole.{work_read}
use Rattle.gx_work.proofs.laws.generated_work_is_a_script.Goals as goal

pub returns : goal.returns
returns c = work_read
