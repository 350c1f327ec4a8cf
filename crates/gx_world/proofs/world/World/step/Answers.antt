use Rattle.std.proofs.Common.{ap, ◌∙◌}
use Rattle.gx_law_runs.specs.Replays.{world_behind}
use Rattle.gx_rules.specs.Machine.{node_of}
use Rattle.gx_world.specs.Worlds.{WorldState, kept_for}
use Rattle.gx_world.proofs.Answers.{always_ok}
use Rattle.gx_world.proofs.Journals.{later-those, those-alike}
use Rattle.gx_world.proofs.Laws.{run-blocked, run-follows, run-legal, run-locks, run-ordered, run-rounds, run-standing, run-system, run-tells}
use Rattle.gx_world.proofs.world.World.step.Goals as goal

pub returns-clause-legal : goal.returns-clause-legal
returns-clause-legal g c = always_ok c.step.result _ (run-legal _ c.step.new.self c.step.ensures.is (ap (λ a. a.value) c.step.ensures.script ∙ ap (λ w. w.script) c.self.view_is))

pub returns-clause-protocol : goal.returns-clause-protocol
returns-clause-protocol g c = always_ok c.step.result _ (run-follows _ c.step.new.self c.step.ensures.is (ap (λ a. a.value) c.step.ensures.script ∙ ap (λ w. w.script) c.self.view_is))

pub returns-clause-tells : goal.returns-clause-tells
returns-clause-tells g c = always_ok c.step.result _ (run-tells _ c.step.new.self c.step.ensures.is (ap (λ a. a.value) c.step.ensures.script ∙ ap (λ w. w.script) c.self.view_is))

pub returns-clause-standing : goal.returns-clause-standing
returns-clause-standing g c = always_ok c.step.result _ (run-standing _ c.step.new.self c.step.ensures.is (ap (λ a. a.value) c.step.ensures.script ∙ ap (λ w. w.script) c.self.view_is))

pub returns-clause-locks : goal.returns-clause-locks
returns-clause-locks g c = always_ok c.step.result _ (run-locks _ c.step.new.self c.step.ensures.is (ap (λ a. a.value) c.step.ensures.script ∙ ap (λ w. w.script) c.self.view_is))

pub returns-clause-blocked : goal.returns-clause-blocked
returns-clause-blocked g c = always_ok c.step.result _ (run-blocked _ c.step.new.self c.step.ensures.is (ap (λ a. a.value) c.step.ensures.script ∙ ap (λ w. w.script) c.self.view_is))

pub returns-clause-rounds : goal.returns-clause-rounds
returns-clause-rounds g c = always_ok c.step.result _ (run-rounds _ c.step.new.self c.step.ensures.is (ap (λ a. a.value) c.step.ensures.script ∙ ap (λ w. w.script) c.self.view_is))

pub returns-clause-ordered : goal.returns-clause-ordered
returns-clause-ordered g c = always_ok c.step.result _ (run-ordered _ c.step.new.self c.step.ensures.is (ap (λ a. a.value) c.step.ensures.script ∙ ap (λ w. w.script) c.self.view_is))

pub returns-clause-system : goal.returns-clause-system
returns-clause-system g c = always_ok c.step.result _ (run-system _ c.step.new.self c.step.ensures.is (ap (λ a. a.value) c.step.ensures.script ∙ ap (λ w. w.script) c.self.view_is))

pub returns-clause-later : goal.returns-clause-later
returns-clause-later g c = later-those c.step.ensures.later

pub returns-clause-item : goal.returns-clause-item
returns-clause-item g c = those-alike (λ (w : WorldState). node_of c.args.event) (λ (w : WorldState). kept_for w.script (world_behind w.script w.run.steps) c.args.event) c.self.view_is c.step.ensures.later
