use Rattle.gx_law_runs.proofs.Detecting.{some-awaited}
use Rattle.gx_law_runs.proofs.rounds.running_rounds_await_a_graph.Goals as goal

pub returns : goal.returns
returns c = λ script steps some is. some-awaited script steps some is
