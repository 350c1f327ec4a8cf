use Rattle.std.proofs.Common.{◌∙◌, ◌++◌, ap}
use Rattle.gx_store.specs.declared.run.Run.{Run}
use Rattle.gx_script.specs.declared.Script.{Script}
use Rattle.gx_drive.proofs.Answers.{if_ok}
use Rattle.gx.specs.Top.{ended_text, traced}
use Rattle.gx.proofs.telling.ended_text.Goals as goal

pub returns : goal.returns
returns c =
    let options = c.args.options in
    let world = c.args.world.now in
    if_ok c.text_with.result _ _ c.text_with.ensures
    (λ text told. record {
      tables = c.in_ok-tables.tables.items;
      final = record { all = c.in_ok-tables.ensures.all; final = c.in_ok-tables.ensures.rows };
      told = told
          ∙ ap (λ (s : Script). ended_text options.work s c.run.result.now c.as_slice.result.now ++ traced options.trace s c.run.result.now) c.script.ensures.value
          ∙ ap (λ (r : Run). ended_text options.work world.script r c.as_slice.result.now ++ traced options.trace world.script r) c.run.ensures.value
          ∙ ap (λ ts. ended_text options.work world.script world.run ts ++ traced options.trace world.script world.run) c.as_slice.ensures.value;
    })
