use Rattle.gx_law_scripts.proofs.Runs.{system_run-legal}
use Rattle.gx_law_scripts.proofs.laws.every_system_run_of_a_script_is_a_legal_history.Goals as goal

pub returns : goal.returns
returns c = λ bytes script run read system. system_run-legal bytes script read run system
