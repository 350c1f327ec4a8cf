use Rattle.std.proofs.Common.{◌∙◌}
use Rattle.gx_legal.proofs.steps.legal.Goals as goal

pub are_legal_steps-requires-clause-all : goal.are_legal_steps-requires-clause-all
are_legal_steps-requires-clause-all c = c.deref.ensures.value ∙ c.in_ok-all.ensures
