use Rattle.std.proofs.Common.{◌∙◌, ◌++◌, ℕ, List, ap}
use Rattle.gx_store.specs.declared.run.Run.{Run}
use Rattle.gx_script.specs.declared.Script.{Script}
use Rattle.gx_drive.proofs.Answers.{if_ok}
use Rattle.gx.specs.Top.{traced}
use Rattle.gx.proofs.telling.stuck_text.Goals as goal

pub returns : goal.returns
returns c =
    let world = c.args.world.now in
    if_ok c.with_trace.result _ _ c.with_trace.ensures
    (λ all behind. record {
      front = c.in_ok-text.text.items;
      says = c.in_ok-text.ensures;
      told = behind
          ∙ ap (λ (s : Script). c.push_stuck.new.text.items ++ traced c.args.options.trace s c.run.result.now) c.script.ensures.value
          ∙ ap (λ (r : Run). c.push_stuck.new.text.items ++ traced c.args.options.trace world.script r) c.run.ensures.value
          ∙ ap (λ (xs : List ℕ). xs ++ traced c.args.options.trace world.script world.run) c.in_ok-push_stuck.ensures;
    })
