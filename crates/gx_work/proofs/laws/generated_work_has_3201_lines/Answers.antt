use Rattle.gx_work.proofs.Whole.{work_count}
use Rattle.gx_work.proofs.laws.generated_work_has_3201_lines.Goals as goal

pub returns : goal.returns
returns c = work_count
