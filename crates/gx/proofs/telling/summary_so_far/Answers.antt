use Rattle.std.proofs.Common.{◌∙◌, ap}
use Rattle.gx_store.specs.declared.run.Run.{Run}
use Rattle.gx_script.specs.declared.Script.{Script}
use Rattle.gx_report.specs.Summary.{summary_of}
use Rattle.gx_drive.proofs.Answers.{if_ok}
use Rattle.gx.proofs.telling.summary_so_far.Goals as goal

pub returns : goal.returns
returns c =
    if_ok c.summary.result _ _ c.summary.ensures
    (λ text told. (
      c.in_ok-tables.tables.items,
      record { all = c.in_ok-tables.ensures.all; final = c.in_ok-tables.ensures.rows },
      told ∙ ap (λ (s : Script). summary_of c.args.number s c.run.result.now c.as_slice.result.now) c.script.ensures.value
          ∙ ap (λ (r : Run). summary_of c.args.number c.args.world.now.script r c.as_slice.result.now) c.run.ensures.value
          ∙ ap (summary_of c.args.number c.args.world.now.script c.args.world.now.run) c.as_slice.ensures.value,
    ))
