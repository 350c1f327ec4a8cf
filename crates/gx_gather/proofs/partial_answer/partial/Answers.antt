use Rattle.std.proofs.Common.{◌∙◌}
use Rattle.std.proofs.lemmas.Result.{IfOk-weaker}
use Rattle.gx_gather.proofs.Steps.{part_grouped, part_whole}
use Rattle.gx_gather.proofs.partial_answer.partial.Goals as goal

pub returns-then-is_empty : goal.returns-then-is_empty
returns-then-is_empty c =
    IfOk-weaker c.one_group.result _ _ (λ part made.
    made ∙ part_whole c.args.query.now c.args.rows.now c.as_slice.result.now c.if-query.true (c.is_empty.ensures.0 c.if-is_empty.true) c.as_slice.ensures) c.one_group.ensures

pub returns-in_ok-listed : goal.returns-in_ok-listed
returns-in_ok-listed c =
    part_grouped c.args.query.now c.args.rows.now c.in_ok-groups.groups.entries c.from_vec.result c.if-query.true c.in_ok-listed.ensures.ordered c.in_ok-groups.ensures
    (c.from_vec.ensures ∙ c.in_ok-listed.ensures.listed)
