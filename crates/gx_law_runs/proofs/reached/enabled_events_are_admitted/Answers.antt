use Rattle.std.proofs.Common.{◌≡◌, true}
use Rattle.std.specs.List.{list_all}
use Rattle.gx_store.specs.Schedule.{enabled}
use Rattle.gx_law_runs.specs.Replays.{is_admitted}
use Rattle.gx_law_runs.proofs.Reaching.{all-are-admitted, by-events}
use Rattle.gx_law_runs.proofs.reached.enabled_events_are_admitted.Goals as goal

pub returns : goal.returns
returns c = λ script steps some is. by-events script steps is (λ ss. list_all (is_admitted script ss) (enabled script ss) ≡ true) (λ es. all-are-admitted script some es)
