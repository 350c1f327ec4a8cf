use Rattle.std.proofs.Common.{rules, ap, ◌∙◌}
use Rattle.gx_world.proofs.Starting.{more-new}
use Rattle.gx_world.proofs.making.new_segments.Goals as goal

pub loop-before-preserved : goal.loop-before-preserved
loop-before-preserved c =
    more-new c.args.script.now.value _ c.in_ok-new.field-0 _ c.loop-before.invariant
    (record { is = c.in_ok-new.ensures.new; of = ap (λ a. a.value) c.in_ok-new.ensures.script ∙ search rules; usable = c.in_ok-new.ensures.fresh }) _ c.in_ok-push.ensures.items
