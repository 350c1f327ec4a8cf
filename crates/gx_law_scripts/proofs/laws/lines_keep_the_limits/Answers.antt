use Rattle.gx_sql.proofs.Limited.{script-kept}
use Rattle.gx_law_scripts.proofs.laws.lines_keep_the_limits.Goals as goal

pub returns : goal.returns
returns c = λ bytes script read. (script-kept bytes script read).limits
