use Rattle.gx_decide.proofs.Verdicts.{durable, equal}
use Rattle.gx_decide.proofs.law.verdict_log.Goals as goal

pub returns-clause-durable : goal.returns-clause-durable
returns-clause-durable c = durable

pub returns-clause-equal : goal.returns-clause-equal
returns-clause-equal c = equal
