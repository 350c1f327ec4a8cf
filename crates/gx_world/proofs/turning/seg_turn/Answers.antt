use Rattle.std.proofs.Common.{◌≡◌, ◌∙◌, ◌++◌, ◌∷◌, [], List, ap, if◌then◌else◌, length, subst}
use Rattle.gx_ids.specs.declared.ids.Node.{Node}
use Rattle.gx_store.specs.Journals.{is_same_node}
use Rattle.gx_store.specs.declared.run.Step.{Step}
use Rattle.gx_world.specs.Links.{link_in, places_from}
use Rattle.gx_world.specs.declared.network.Network.{Network}
use Rattle.gx_world.proofs.Answers.{both_ok, on_ok}
use Rattle.gx_world.proofs.Coming.{comes}
use Rattle.gx_world.proofs.Segs.{seg-addressed, seg-inside, seg-is, seg-later, seg-may, seg-turned, seg-usable}
use Rattle.gx_world.proofs.turning.seg_turn.Goals as goal

pub seg_step-requires : goal.seg_step-requires
seg_step-requires g c κs within = (
  within.0,
  (
    within.1,
    (
      c.requires.1.1.1.1.0,
      (
        seg-inside _ _ c.args.network.now c.requires.1.1.0 c.args.at c.requires.1.1.1.1.0 c.requires.1.1.1.1.1.0,
        (
          seg-usable _ _ c.args.network.now c.requires.1.1.0 c.args.at c.requires.1.1.1.1.0,
          (
            seg-is _ _ c.args.network.now c.requires.1.1.0 c.args.at c.requires.1.1.1.1.0,
            (
              c.requires.1.1.1.1.1.1.1.1.1.segments,
              (
                comes _ _ c.args.network.now c.requires.1.1.0 _ _ c.requires.1.1.1.0,
                (
                  seg-may _ _ c.args.network.now c.requires.1.1.0 c.args.at c.requires.1.1.1.1.0 g.moment.here c.requires.1.1.1.1.1.1.0,
                  c.requires.1.1.1.1.1.1.1.1.0,
                ),
              ),
            ),
          ),
        ),
      ),
    ),
  ),
)

pub push_step-requires : goal.push_step-requires
push_step-requires g c =
    (c.requires.1.1.0.long, seg-addressed _ _ c.args.network.now c.requires.1.1.0 _ c.requires.1.1.1.1.0 _ _ _ _ _ _ c.requires.1.1.1.1.1.1.1.0 c.in_ok-step.ensures.stepped)

pub returns-clause-turned : goal.returns-clause-turned
returns-clause-turned g c =
    let old = c.args.network.now in
    let new = c.push_step.new.network in
    let step : Step = c.in_ok-step.step in
    let others = c.push_step.ensures.others in
    on_ok c.push_step.result _ _ (both_ok c.push_step.result _ _ c.push_step.ensures.run (both_ok c.push_step.result _ _ c.push_step.ensures.long c.push_step.ensures.links))
    (λ e.
    seg-turned _ _ old c.requires.1.1.0 _ c.requires.1.1.1.1.0 _ _ _ _ _ _ c.requires.1.1.1.1.1.1.1.0 c.in_ok-step.ensures.stepped new
    (record {
      run = e.0 ∙ ap (λ (steps : List Step). steps ++ step ∷ []) c.seg_step.ensures.steps;
      long = e.1.0;
      links = subst (λ (steps : List Step). (f t : Node) → link_in new.letters f t ≡ link_in old.letters f t ++ (if is_same_node f step.stamp.node then places_from (length steps) 0 t step.marks else [])) c.seg_step.ensures.steps e.1.1;
    })
    (ap (λ (x : Network). x.segments.items) others) (ap (λ (x : Network). x.coord) others) (ap (λ (x : Network). x.script) others) (ap (λ (x : Network). x.spent) others))

pub returns-clause-later : goal.returns-clause-later
returns-clause-later g c = seg-later _ _ c.args.network.now c.requires.1.1.0 c.args.at c.requires.1.1.1.1.0 g.moment.here c.seg_step.ensures.later

pub returns-in_err-step-clause-later : goal.returns-in_err-step-clause-later
returns-in_err-step-clause-later g c = seg-later _ _ c.args.network.now c.requires.1.1.0 c.args.at c.requires.1.1.1.1.0 g.moment.here c.seg_step.ensures.later
