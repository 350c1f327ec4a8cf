use Rattle.std.proofs.Common.{◌∙◌, sym}
use Rattle.gx_drive.proofs.Running.{next-round, no-round}
use Rattle.gx_drive.proofs.detecting.next_round.Goals as goal

pub returns-then-begins_none-clause-first : goal.returns-then-begins_none-clause-first
returns-then-begins_none-clause-first c =
    no-round c.args.world.now.script c.args.world.now.run.steps c.requires.language.some_segments c.requires.reached (sym c.if-begins_none.true ∙ c.begins_none.ensures)

pub returns-else-begins_none-clause-first : goal.returns-else-begins_none-clause-first
returns-else-begins_none-clause-first c =
    c.begun.ensures.is
    ∙ next-round c.args.world.now.script c.args.world.now.run.steps c.requires.language.some_segments c.requires.reached _ (sym c.if-begins_none.false ∙ c.begins_none.ensures) (c.any_wait.ensures c.requires.usable)
