use Rattle.std.proofs.Common.{◌∙◌, ◌+◌, ◌++◌, ◌∷◌, [], ap}
use Rattle.gx_meaning.specs.Plan.{piece}
use Rattle.gx_plan.proofs.Sent.{sent_more}
use Rattle.gx_plan.proofs.sending.copies.Goals as goal

pub loop-number-preserved : goal.loop-number-preserved
loop-number-preserved c =
    sent_more c.args.slice.now c.loop-number.number c.loop-number.found.items c.push.new.self.items c.loop-number.invariant
    (c.in_ok-push.ensures.items ∙ ap (λ s. c.loop-number.found.items ++ piece s (record { 0 = c.loop-number.number + 1 }) ∷ []) c.in_ok-slice.ensures)
