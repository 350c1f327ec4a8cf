use Rattle.std.proofs.Common.{ap, ◌∙◌, ◌∷◌, [], subst, sym, arith, length}
use Rattle.gx_script.specs.declared.Script.{Script}
use Rattle.gx_law_runs.specs.Replays.{is_admitted}
use Rattle.gx_store.specs.Schedule.{first_of, is_to_end}
use Rattle.gx_drive.specs.Agrees.{IsDue}
use Rattle.gx_drive.proofs.Enabled.{end-admitted}
use Rattle.gx_drive.proofs.Firsts.{passing-skips, passing-takes}
use Rattle.gx_drive.proofs.ends.first_end.Goals as goal

pub returns-then-can-clause-first : goal.returns-then-can-clause-first
returns-then-can-clause-first c =
    ap (λ e. e ∷ []) c.end_of-event.ensures
    ∙ sym (passing-takes (is_to_end c.args.world.now.script c.args.world.now.run.steps) c.loop-place.place _ (omega (arith, c.loop-place.auto.place-end, c.len-place-end.ensures, ap (λ (s : Script). length s.sessions) c.script.ensures.value))
    (end-admitted c.args.world.now.script c.script.ensures.language.some_segments c.args.world.now.run.steps c.requires.reached _ ∙ ap (is_admitted c.args.world.now.script c.args.world.now.run.steps) (sym c.end_of-event.ensures) ∙ sym (c.can.ensures.value c.requires.usable) ∙ c.if-can.true))
    ∙ c.loop-place.invariant

pub loop-place-preserved : goal.loop-place-preserved
loop-place-preserved c =
    ap first_of
    (sym (passing-skips (is_to_end c.args.world.now.script c.args.world.now.run.steps) c.loop-place.place _ (omega (arith, c.loop-place.auto.place-end, c.len-place-end.ensures, ap (λ (s : Script). length s.sessions) c.script.ensures.value))
    (end-admitted c.args.world.now.script c.script.ensures.language.some_segments c.args.world.now.run.steps c.requires.reached _ ∙ ap (is_admitted c.args.world.now.script c.args.world.now.run.steps) (sym c.end_of-event.ensures) ∙ sym (c.can.ensures.value c.requires.usable) ∙ c.if-can.false)))
    ∙ c.loop-place.invariant

pub returns-then-can-clause-due : goal.returns-then-can-clause-due
returns-then-can-clause-due c = subst (IsDue c.args.world.now.script c.args.world.now.run.steps) (sym c.end_of-event.ensures) tt
