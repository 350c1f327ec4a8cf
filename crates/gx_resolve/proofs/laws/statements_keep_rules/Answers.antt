use Rattle.gx_resolve.proofs.Promised.{stmt_of-keeps}
use Rattle.gx_resolve.proofs.laws.statements_keep_rules.Goals as goal

pub returns : goal.returns
returns c = stmt_of-keeps
