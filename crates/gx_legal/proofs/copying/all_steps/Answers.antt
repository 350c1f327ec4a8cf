use Rattle.std.proofs.Common.{rules, ◌∙◌, ◌++◌, ◌∷◌, [], List, ap, sym, take}
use Rattle.std.proofs.lemmas.List.{take_more}
use Rattle.gx_store.specs.declared.run.Step.{Step}
use Rattle.gx_legal.proofs.copying.all_steps.Goals as goal

pub loop-place-preserved : goal.loop-place-preserved
loop-place-preserved c =
    let steps = c.args.steps.now in
    let place = c.loop-place.place in
    let copy = c.in_ok-step_copy.field-0 in
    c.in_ok-push.ensures.items
    ∙ ap (λ (done : List Step). done ++ copy ∷ []) c.loop-place.invariant
    ∙ ap (λ (step : Step). take place steps ++ step ∷ []) (c.in_ok-step_copy.ensures ∙ c.at.ensures copy)
    ∙ sym (take_more steps place copy (search rules))
