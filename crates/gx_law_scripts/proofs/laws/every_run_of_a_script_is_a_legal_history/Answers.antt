use Rattle.gx_law_scripts.proofs.Runs.{run-legal}
use Rattle.gx_law_scripts.proofs.laws.every_run_of_a_script_is_a_legal_history.Goals as goal

pub returns : goal.returns
returns c = λ bytes script events read. run-legal bytes script read events
