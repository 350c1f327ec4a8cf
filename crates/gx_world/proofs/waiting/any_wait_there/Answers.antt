use Rattle.std.proofs.Common.{◌+◌, ◌∙◌, arith, sym}
use Rattle.gx_world.specs.Waiting.{waits_there}
use Rattle.gx_world.proofs.Waits.{any-inside, none-more}
use Rattle.gx_world.proofs.waiting.any_wait_there.Goals as goal

pub any_wait_at-requires : goal.any_wait_at-requires
any_wait_at-requires c = (omega arith, λ segment there. ((c.requires.is.stands c.requires.usable).segments c.loop-place.place segment there).is)

pub returns-then-any_wait_at : goal.returns-then-any_wait_at
returns-then-any_wait_at c =
    sym (any-inside (waits_there c.args.network.now.script.value c.args.network.now.run.steps) 1 c.args.network.now.script.value.segments (c.loop-place.place + 1) (omega arith) (omega (arith, (c.requires.is.stands c.requires.usable).count)) (sym c.any_wait_at.ensures ∙ c.if-any_wait_at.true))

pub loop-place-preserved : goal.loop-place-preserved
loop-place-preserved c =
    none-more (waits_there c.args.network.now.script.value c.args.network.now.run.steps) c.loop-place.place c.loop-place.invariant (sym c.any_wait_at.ensures ∙ c.if-any_wait_at.false)
