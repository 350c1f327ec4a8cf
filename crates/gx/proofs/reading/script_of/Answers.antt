use Rattle.gx.proofs.Attempts.{refused}
use Rattle.gx.proofs.reading.script_of.Goals as goal

pub returns-in-Err-clause-err : goal.returns-in-Err-clause-err
returns-in-Err-clause-err c = refused _ c.in-Err.refusal c.in-Err.ensures.reads c.refused.result c.refused.ensures
