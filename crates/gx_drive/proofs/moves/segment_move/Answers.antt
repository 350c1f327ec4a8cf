use Rattle.std.proofs.Common.{◌∙◌, ap, sym}
use Rattle.gx_store.specs.Refusals.{the_coordinator}
use Rattle.gx_store.specs.Schedule.{first_of, left_on}
use Rattle.gx_drive.proofs.Firsts.{first-twice, none-first, some-first}
use Rattle.gx_drive.proofs.moves.segment_move.Goals as goal

pub returns-in-Some-clause-first : goal.returns-in-Some-clause-first
returns-in-Some-clause-first c = some-first _ _ _ (ap first_of c.in-Some.ensures.first)

pub returns-in-None-clause-first : goal.returns-in-None-clause-first
returns-in-None-clause-first c =
    none-first _ _ _ (ap first_of c.in-None.ensures.first) (c.delivery.ensures.first ∙ sym (first-twice (left_on c.args.world.now.script c.args.world.now.run.steps the_coordinator c.args.segment)))
