use Rattle.gx_store.specs.Refusals.{the_coordinator}
use Rattle.gx_law_merge.specs.Apart.{coordinators_rule, segments_rule}
use Rattle.gx_law_merge.proofs.Longer.{same-by}
use Rattle.gx_law_merge.proofs.apart.longer_links_change_no_history.Goals as goal

pub returns : goal.returns
returns c =
    record {
      coordinator = λ script post more held steps has follows. same-by post more has (coordinators_rule script) the_coordinator held steps follows;
      segment = λ script node post more held steps has follows. same-by post more has (segments_rule script) node held steps follows;
    }
