use Rattle.gx_law_scripts.proofs.Whole.{inserts_whole}
use Rattle.gx_law_scripts.proofs.laws.inserts_are_whole.Goals as goal

pub returns : goal.returns
returns c = λ bytes script read. inserts_whole bytes script read
