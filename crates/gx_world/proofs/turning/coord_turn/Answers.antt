use Rattle.std.proofs.Common.{◌≡◌, ◌∙◌, ◌++◌, ◌∷◌, [], List, false, ap, if◌then◌else◌, length, subst}
use Rattle.gx_ids.specs.declared.ids.Node.{Node}
use Rattle.gx_node.proofs.Later.{later-alike}
use Rattle.gx_rules.specs.AtCoordinator.{coord_rule}
use Rattle.gx_script.specs.declared.Script.{Script}
use Rattle.gx_store.specs.Journals.{is_same_node}
use Rattle.gx_store.specs.declared.run.Step.{Step}
use Rattle.gx_world.specs.Links.{link_in, places_from}
use Rattle.gx_world.proofs.Answers.{both_ok, on_ok}
use Rattle.gx_world.proofs.Turned.{coord-addressed, coord-turned}
use Rattle.gx_world.proofs.turning.coord_turn.Goals as goal

pub push_step-requires : goal.push_step-requires
push_step-requires g c =
    (c.requires.1.0.long, coord-addressed _ _ _ c.args.network.now c.requires.1.0 _ _ _ _ _ c.coord_step.new.coord _ c.step_of-step.ensures c.requires.1.1.1.1.0 c.in_ok-marks.ensures.stepped)

pub returns-clause-turned : goal.returns-clause-turned
returns-clause-turned g c =
    let old = c.args.network.now in
    let new = c.push_step.new.network in
    let step : Step = c.step_of-step.result in
    on_ok c.push_step.result _ _ (both_ok c.push_step.result _ _ c.push_step.ensures.run (both_ok c.push_step.result _ _ c.push_step.ensures.long c.push_step.ensures.links))
    (λ e.
    coord-turned _ _ old new c.requires.1.0 _ _ _ _ _ c.coord_step.new.coord _ c.step_of-step.ensures c.requires.1.1.1.1.0 c.in_ok-marks.ensures.stepped
    (record {
      run = e.0 ∙ ap (λ (steps : List Step). steps ++ step ∷ []) c.coord_step.ensures.steps;
      long = e.1.0;
      links = subst (λ (steps : List Step). (f t : Node) → link_in new.letters f t ≡ link_in old.letters f t ++ (if is_same_node f step.stamp.node then places_from (length steps) 0 t step.marks else [])) c.coord_step.ensures.steps e.1.1;
    })
    c.push_step.ensures.others)

pub returns-in_err-marks-clause-later : goal.returns-in_err-marks-clause-later
returns-in_err-marks-clause-later g c = later-alike (λ (x : Script). (coord_rule x g.at.w.coord g.at.here false).item) c.requires.1.0.coord_script c.coord_step.ensures.later

pub returns-clause-later : goal.returns-clause-later
returns-clause-later g c = later-alike (λ (x : Script). (coord_rule x g.at.w.coord g.at.here false).item) c.requires.1.0.coord_script c.coord_step.ensures.later
