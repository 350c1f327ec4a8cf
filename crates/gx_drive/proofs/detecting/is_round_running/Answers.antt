use Rattle.std.proofs.Common.{◌∙◌, ap, sym}
use Rattle.gx_script.specs.declared.Script.{Script}
use Rattle.gx_drive.proofs.Running.{none-runs, runs-unless}
use Rattle.gx_drive.proofs.detecting.is_round_running.Goals as goal

pub returns-then-script : goal.returns-then-script
returns-then-script c =
    runs-unless c.args.world.now.script c.args.world.now.run.steps c.script.ensures.language.some_segments c.requires.reached c.begins_none.result (sym (ap (λ (s : Script). s.detector) c.script.ensures.value) ∙ c.if-script.true) c.begins_none.ensures

pub returns-else-script : goal.returns-else-script
returns-else-script c =
    none-runs c.args.world.now.script c.args.world.now.run.steps c.script.ensures.language.some_segments c.requires.reached (sym (ap (λ (s : Script). s.detector) c.script.ensures.value) ∙ c.if-script.false)
