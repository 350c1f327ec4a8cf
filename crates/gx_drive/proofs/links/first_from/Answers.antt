use Rattle.std.proofs.Common.{◌∙◌, ap, arith, refl, sym}
use Rattle.gx_script.specs.declared.Script.{Script}
use Rattle.gx_drive.proofs.Firsts.{option-none}
use Rattle.gx_drive.proofs.Quieter.{found-from, nothing-from, quieter-from}
use Rattle.gx_drive.proofs.links.first_from.Goals as goal

pub returns-then-is_some-clause-first : goal.returns-then-is_some-clause-first
returns-then-is_some-clause-first c =
    found-from c.args.world.now.script c.args.world.now.run.steps c.loop-number.quiet c.loop-number.invariant.0 c.loop-number.number c.delivery-event.result c.loop-number.invariant.1
    (omega (arith, c.loop-number-test.true, ap (λ (s : Script). s.segments) c.script.ensures.value)) (sym c.is_some.ensures ∙ c.if-is_some.true) c.delivery-event.ensures.first

pub loop-number-preserved : goal.loop-number-preserved
loop-number-preserved c = (
  quieter-from c.args.world.now.script c.args.world.now.run.steps c.loop-number.quiet c.loop-number.invariant.0 c.loop-number.number c.loop-number.invariant.1
      (sym (option-none c.delivery-event.result (sym c.is_some.ensures ∙ c.if-is_some.false)) ∙ c.delivery-event.ensures.first),
  refl,
)

pub returns-clause-first : goal.returns-clause-first
returns-clause-first c =
    nothing-from c.args.world.now.script c.args.world.now.run.steps c.loop-number.quiet c.loop-number.invariant.0 c.loop-number.number c.loop-number.invariant.1
    (omega (arith, c.loop-number-test.false, ap (λ (s : Script). s.segments) c.script.ensures.value))
