use Rattle.std.proofs.Common.{List, [], subst, sym}
use Rattle.std.specs.Prelude.{map}
use Rattle.gx_script.specs.declared.Script.{Script}
use Rattle.gx_store.specs.declared.run.Step.{Step}
use Rattle.gx_drive.specs.Agrees.{IsAgreed}
use Rattle.gx_drive.specs.Ordered.{AreHeldSoFar}
use Rattle.gx_store.specs.Groups.{lets}
use Rattle.gx_law_lone.specs.Victims.{DoLoneRoundsFindVictims}
use Rattle.gx_law_progress.specs.LoneRounds.{AreLoneRoundsFew}
use Rattle.gx_law_runs.specs.Reached.{IsReached}
use Rattle.gx_drive.proofs.Journals.{none-held-so-far}
use Rattle.gx_drive.proofs.Lone.{first-few, first-lone, none-few}
use Rattle.gx_drive.proofs.ordered.run_ordered.Goals as goal

pub run_firsts-end-requires-clause-agreed : goal.run_firsts-end-requires-clause-agreed
run_firsts-end-requires-clause-agreed g c = subst (λ (s : Script). IsAgreed s [] c.in_ok-agenda.agenda) c.script.ensures.value c.in_ok-agenda.ensures

pub returns-in_err-agenda-clause-so_far : goal.returns-in_err-agenda-clause-so_far
returns-in_err-agenda-clause-so_far g c =
    subst (λ (steps : List Step). AreHeldSoFar steps (map g.J.Journal.shelf c.args.journals.now)) (sym c.requires.new) (none-held-so-far (map g.J.Journal.shelf c.args.journals.now) c.requires.empty)

-- nothing was done
pub returns-in_err-agenda-clause-lone : goal.returns-in_err-agenda-clause-lone
returns-in_err-agenda-clause-lone g c = λ inserts. subst (λ (steps : List Step). DoLoneRoundsFindVictims c.args.world.now.script (lets c.args.world.now.script) [] steps) (sym c.requires.new) tt

pub returns-clause-lone : goal.returns-clause-lone
returns-clause-lone g c = λ inserts.
    first-lone c.args.world.now.script c.script.ensures.language inserts c.run_firsts-end.new.world.run.steps
    (subst (λ (s : Script). IsReached s c.run_firsts-end.new.world.run.steps) c.run_firsts-end.ensures.script c.run-run.ensures.reached) c.run_firsts-end.ensures.first

pub returns-in_err-agenda-clause-few : goal.returns-in_err-agenda-clause-few
returns-in_err-agenda-clause-few g c = λ inserts. subst (λ (steps : List Step). AreLoneRoundsFew c.args.world.now.script (lets c.args.world.now.script) steps) (sym c.requires.new) (none-few c.args.world.now.script)

pub returns-clause-few : goal.returns-clause-few
returns-clause-few g c = λ inserts.
    first-few c.args.world.now.script c.script.ensures.language inserts c.run_firsts-end.new.world.run.steps
    (subst (λ (s : Script). IsReached s c.run_firsts-end.new.world.run.steps) c.run_firsts-end.ensures.script c.run-run.ensures.reached) c.run_firsts-end.ensures.first
