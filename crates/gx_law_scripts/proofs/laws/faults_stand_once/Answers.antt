use Rattle.gx_sql.proofs.Limited.{faults-once}
use Rattle.gx_law_scripts.proofs.laws.faults_stand_once.Goals as goal

pub returns : goal.returns
returns c = λ bytes script read. faults-once bytes script read
