use Rattle.std.proofs.Common.{◌+◌, ◌++◌, ◌∙◌, ap, arith}
use Rattle.gx_script.specs.declared.Script.{Script}
use Rattle.gx_ids.specs.declared.ids.Node.{Node}
use Rattle.gx_store.specs.Refusals.{the_coordinator}
use Rattle.gx_store.specs.Schedule.{first_of, left_on}
use Rattle.gx_drive.proofs.Pushed.{nodes-all, nodes-push}
use Rattle.gx_drive.proofs.listing.push_from.Goals as goal

pub loop-number-preserved : goal.loop-number-preserved
loop-number-preserved c =
    nodes-push (λ (segment : Node). first_of (left_on c.args.world.now.script c.args.world.now.run.steps segment the_coordinator)) c.loop-number.number (c.args.world.now.script.segments + 1) _ _ _
    (omega (arith, c.loop-number.auto.number-end, ap (λ (s : Script). s.segments) c.script.ensures.value)) (c.in_ok-push_option.ensures ∙ ap (λ xs. c.loop-number.events.items ++ xs) c.delivery.ensures.first) c.loop-number.invariant

pub returns : goal.returns
returns c =
    nodes-all (λ (segment : Node). first_of (left_on c.args.world.now.script c.args.world.now.run.steps segment the_coordinator)) c.loop-number.number (c.args.world.now.script.segments + 1) _ _
    (omega (arith, c.loop-number.auto.number-end, ap (λ (s : Script). s.segments) c.script.ensures.value)) c.loop-number.invariant
