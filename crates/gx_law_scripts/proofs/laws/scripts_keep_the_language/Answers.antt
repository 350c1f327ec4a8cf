use Rattle.gx_sql.proofs.Limited.{script-is}
use Rattle.gx_law_scripts.proofs.laws.scripts_keep_the_language.Goals as goal

pub returns : goal.returns
returns c = λ bytes script few read. script-is bytes script few read
