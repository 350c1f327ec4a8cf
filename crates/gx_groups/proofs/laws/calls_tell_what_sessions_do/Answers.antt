use Rattle.gx_groups.proofs.Told.{asks-told, holds-told}
use Rattle.gx_groups.proofs.laws.calls_tell_what_sessions_do.Goals as goal

pub returns-clause-asks : goal.returns-clause-asks
returns-clause-asks c = asks-told

pub returns-clause-holds : goal.returns-clause-holds
returns-clause-holds c = holds-told
