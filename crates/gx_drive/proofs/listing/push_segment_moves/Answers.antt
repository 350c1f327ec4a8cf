use Rattle.std.proofs.Common.{◌+◌, ◌++◌, ◌∙◌, ap, arith}
use Rattle.gx_script.specs.declared.Script.{Script}
use Rattle.gx_store.specs.Schedule.{at_segment}
use Rattle.gx_drive.proofs.Pushed.{nodes-all, nodes-push}
use Rattle.gx_drive.proofs.listing.push_segment_moves.Goals as goal

pub loop-number-preserved : goal.loop-number-preserved
loop-number-preserved c =
    nodes-push (at_segment c.args.world.now.script c.args.world.now.run.steps) c.loop-number.number (c.args.world.now.script.segments + 1) _ _ _
    (omega (arith, c.loop-number.auto.number-end, ap (λ (s : Script). s.segments) c.script.ensures.value)) (c.in_ok-push_option.ensures ∙ ap (λ xs. c.loop-number.events.items ++ xs) c.segment_move.ensures.first) c.loop-number.invariant

pub returns : goal.returns
returns c =
    nodes-all (at_segment c.args.world.now.script c.args.world.now.run.steps) c.loop-number.number (c.args.world.now.script.segments + 1) _ _
    (omega (arith, c.loop-number.auto.number-end, ap (λ (s : Script). s.segments) c.script.ensures.value)) c.loop-number.invariant
