use Rattle.std.proofs.Common.{List, ap, subst, sym}
use Rattle.std.specs.Prelude.{map}
use Rattle.gx_script.specs.declared.Script.{Script}
use Rattle.gx_rules.specs.Machine.{node_of}
use Rattle.gx_store.specs.declared.run.Step.{Step}
use Rattle.gx_law_runs.specs.Reached.{IsReached}
use Rattle.gx_world.specs.Worlds.{WorldState}
use Rattle.gx_drive.specs.Ordered.{AreFailuresFew, AreHeldSoFar}
use Rattle.gx_drive.proofs.Answers.{on_ok}
use Rattle.gx_drive.proofs.Driving.{turned-by}
use Rattle.gx_drive.proofs.Turning.{held-so-far, stepped-few, stepped-held, stepped-reached, undone-few, undone-held}
use Rattle.gx_drive.proofs.turn.turn.Goals as goal

pub note-requires-clause-reached : goal.note-requires-clause-reached
note-requires-clause-reached g c =
    subst (λ (s : Script). IsReached s c.step.new.self.run.steps) (sym c.in_ok-step.ensures.script)
    (stepped-reached c.args.world.now.script c.requires.language.some_segments c.args.world.now.run.steps c.step.new.self.run.steps c.requires.reached _ _ _ c.in_ok-step.ensures.done)

pub returns-in_err-step-clause-failures : goal.returns-in_err-step-clause-failures
returns-in_err-step-clause-failures g c = λ start few.
    subst (λ (steps : List Step). AreFailuresFew steps start (map g.J.Journal.shelf c.step.new.journals)) (sym (ap (λ (w : WorldState). w.run.steps) c.in_err-step.ensures.err))
    (undone-few c.args.world.now.run.steps (node_of c.args.event) (map g.J.Journal.shelf c.args.journals.now) (map g.J.Journal.shelf c.step.new.journals) c.step.ensures.later start few)

pub returns-in_err-step-clause-held : goal.returns-in_err-step-clause-held
returns-in_err-step-clause-held g c = λ held.
    subst (λ (steps : List Step). AreHeldSoFar steps (map g.J.Journal.shelf c.step.new.journals)) (sym (ap (λ (w : WorldState). w.run.steps) c.in_err-step.ensures.err))
    (undone-held c.args.world.now.run.steps (node_of c.args.event) (map g.J.Journal.shelf c.args.journals.now) (map g.J.Journal.shelf c.step.new.journals) c.step.ensures.later held)

pub returns-clause-failures : goal.returns-clause-failures
returns-clause-failures g c = λ start few.
    stepped-few c.args.world.now.script c.requires.language.some_segments c.args.world.now.run.steps c.step.new.self.run.steps c.requires.reached _ _ _ c.in_ok-step.ensures.done c.in_ok-step.ensures.later start few

pub returns-clause-held : goal.returns-clause-held
returns-clause-held g c = λ held.
    held-so-far c.step.new.self.run.steps _
    (stepped-held c.args.world.now.script c.requires.language.some_segments c.args.world.now.run.steps c.step.new.self.run.steps c.requires.reached _ _ _ c.in_ok-step.ensures.done held)

pub returns-clause-turned : goal.returns-clause-turned
returns-clause-turned g c =
    on_ok c.note.result _ _ c.note.ensures
    (λ noted. turned-by c.args.world.now c.step.new.self c.args.agenda.now c.note.new.agenda _ _ _ c.requires.language.some_segments c.requires.reached c.requires.agreed c.requires.due c.requires.admitted c.in_ok-step.ensures.done c.in_ok-step.ensures.script c.in_ok-step.ensures.unspent noted)
