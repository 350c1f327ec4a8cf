use Rattle.std.proofs.Common.{◌∙◌, ◌+◌, ap, sym, arith}
use Rattle.gx_script.specs.declared.Script.{Script}
use Rattle.gx_store.specs.Schedule.{at_segment}
use Rattle.gx_drive.proofs.Firsts.{nodes-skip, nodes-take, option-none}
use Rattle.gx_drive.proofs.moves.first_segment_move.Goals as goal

pub returns-then-is_some-clause-first : goal.returns-then-is_some-clause-first
returns-then-is_some-clause-first c =
    nodes-take (at_segment c.args.world.now.script c.args.world.now.run.steps) c.loop-number.number (c.args.world.now.script.segments + 1) _
    (omega (arith, c.loop-number.auto.number-end, ap (λ (s : Script). s.segments) c.script.ensures.value)) (sym c.is_some.ensures ∙ c.if-is_some.true) c.segment_move-event.ensures.first
    ∙ c.loop-number.invariant

pub loop-number-preserved : goal.loop-number-preserved
loop-number-preserved c =
    nodes-skip (at_segment c.args.world.now.script c.args.world.now.run.steps) c.loop-number.number (c.args.world.now.script.segments + 1)
    (omega (arith, c.loop-number.auto.number-end, ap (λ (s : Script). s.segments) c.script.ensures.value)) (sym c.segment_move-event.ensures.first ∙ option-none _ (sym c.is_some.ensures ∙ c.if-is_some.false))
    ∙ c.loop-number.invariant
