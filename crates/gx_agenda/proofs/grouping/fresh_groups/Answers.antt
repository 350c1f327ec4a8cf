use Rattle.std.proofs.Common.{◌∙◌, ap, map}
use Rattle.gx_store.specs.Groups.{group_limit}
use Rattle.gx_agenda.proofs.Placing.{places-few, places-within}
use Rattle.gx_agenda.proofs.grouping.fresh_groups.Goals as goal

pub new-requires-clause-within : goal.new-requires-clause-within
new-requires-clause-within c =
    places-within c.args.script.now c.as_slice-2.result.now c.as_slice-3.result.now (c.as_slice-2.ensures.value ∙ c.in_ok-limits.ensures ∙ ap (map group_limit) c.as_slice.ensures) (c.as_slice-3.ensures.value ∙ c.in_ok-places.ensures)

pub new-requires-clause-numbers : goal.new-requires-clause-numbers
new-requires-clause-numbers c = places-few c.args.script.now c.as_slice-3.result.now (c.as_slice-3.ensures.value ∙ c.in_ok-places.ensures) c.requires.few_sessions
