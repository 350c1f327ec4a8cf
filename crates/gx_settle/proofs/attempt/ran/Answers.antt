use Rattle.gx_settle.proofs.Attempts.{stopped-ran}
use Rattle.gx_settle.proofs.attempt.ran.Goals as goal

pub returns-in-Err-clause-came : goal.returns-in-Err-clause-came
returns-in-Err-clause-came g c = stopped-ran c.args.commands.now _ _ _ _ c.run_commands.new.text.items c.in-Err.fault c.stopped.result c.in-Err.ensures.cut c.stopped.ensures
