use Rattle.gx_detect.proofs.Computed as computed
use Rattle.gx_detect.proofs.laws.verdict_is_computed.Goals as goal

pub returns-clause-is : goal.returns-clause-is
returns-clause-is c = computed.is_verdict_of

pub returns-clause-no_other : goal.returns-clause-no_other
returns-clause-no_other c = computed.no_other
