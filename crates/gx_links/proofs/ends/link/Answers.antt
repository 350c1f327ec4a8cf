use Rattle.std.proofs.Common.{rules}
use Rattle.gx_links.proofs.Steps.{begins, forks}
use Rattle.gx_links.proofs.ends.link.Goals as goal

pub with_rule-requires : goal.with_rule-requires
with_rule-requires c = begins

pub another-receiver-requires-clause-rule : goal.another-receiver-requires-clause-rule
another-receiver-requires-clause-rule c = forks _ _ (search rules)
