use Rattle.std.proofs.Common.{ap, subst, ◌∙◌}
use Rattle.gx_world.specs.Networks.{AreNodesBehind}
use Rattle.gx_world.specs.Worlds.{WorldState}
use Rattle.gx_world.proofs.Laws.{nodes-behind}
use Rattle.gx_world.proofs.world.World.into_parts.Goals as goal

pub returns-clause-nodes : goal.returns-clause-nodes
returns-clause-nodes c = λ unspent.
    subst (λ (w : WorldState). AreNodesBehind w.script w.run.steps c.into_parts.result.1) c.self.view_is
    (nodes-behind c.self.inside.network c.into_parts.result.1 c.self.invariant (ap (λ (w : WorldState). w.spent) c.self.view_is ∙ unspent) c.into_parts.ensures.nodes)
