use Rattle.std.proofs.Common.{◌∙◌, ap, arith, false, inr, subst}
use Rattle.std.specs.Prelude.{map}
use Rattle.gx_world.specs.Worlds.{WorldState}
use Rattle.gx_script.specs.declared.Script.{Script}
use Rattle.gx.specs.Top.{AreDriven}
use Rattle.gx_store.specs.Told.{is_over, run_in}
use Rattle.gx_store.specs.declared.run.Run.{Run}
use Rattle.gx.proofs.Kept.{count-back, kept-back, none_ran}
use Rattle.gx.proofs.Runs.{run-in}
use Rattle.gx.proofs.running.run_script.Goals as goal

pub returns-in-Err-clause-kept : goal.returns-in-Err-clause-kept
returns-in-Err-clause-kept g c = none_ran (map g.J.Journal.shelf c.args.journals.now.items) _ c.new-in-Err.result c.new-in-Err.ensures c.requires.empty

pub returns-in-Ok-drive-clause-kept : goal.returns-in-Ok-drive-clause-kept
returns-in-Ok-drive-clause-kept g c =
    kept-back g.J.Journal.shelf c.args.journals.now.items c.deref_mut.result.now c.drive.new.journals _ c.args.journals.now.len c.drive.new.world.run.steps (run_in c.ended.result) (is_over c.ended.result)
    c.deref_mut.ensures.value (omega (arith, c.deref_mut.ensures.len, c.drive.auto.journals)) (ap (λ (r : Run). r.steps) c.ended.ensures.run) c.in-Ok-drive.ensures.failures c.in-Ok-drive.ensures.so_far (λ _. c.in-Ok-drive.ensures.held)

pub returns-in-Err-drive-clause-ran : goal.returns-in-Err-drive-clause-ran
returns-in-Err-drive-clause-ran g c =
    let of = c.drive.ensures.script ∙ ap (λ (w : WorldState). w.script) c.in-Ok.ensures in
    inr (run-in c.args.script c.args.options c.drive.new.world c.into_run.result c.requires.alone of c.into_run.ensures.value c.requires.language c.requires.inserts c.into_run.ensures.reached
    (subst (λ (s : Script). AreDriven c.args.options.seed s c.drive.new.world.run.steps) (ap (λ (w : WorldState). w.script) c.in-Ok.ensures) c.in-Err-drive.ensures.driven)
    c.in-Err-drive.ensures.within)

pub returns-in-Err-drive-clause-kept : goal.returns-in-Err-drive-clause-kept
returns-in-Err-drive-clause-kept g c =
    kept-back g.J.Journal.shelf c.args.journals.now.items c.deref_mut.result.now c.drive.new.journals _ c.args.journals.now.len c.drive.new.world.run.steps c.into_run.result false
    c.deref_mut.ensures.value (omega (arith, c.deref_mut.ensures.len, c.drive.auto.journals)) (ap (λ (r : Run). r.steps) c.into_run.ensures.value) c.in-Err-drive.ensures.failures c.in-Err-drive.ensures.so_far (λ e. absurd (cc))

pub returns-in-Ok-drive-clause-count : goal.returns-in-Ok-drive-clause-count
returns-in-Ok-drive-clause-count g c =
    count-back c.drive.new.journals _ c.args.journals.now.len (omega (arith, c.deref_mut.ensures.len, c.drive.auto.journals)) ∙ omega (arith, c.deref_mut.ensures.len, c.drive.auto.journals, c.in-Ok-drive.ensures.journals)

pub returns-in-Err-drive-clause-count : goal.returns-in-Err-drive-clause-count
returns-in-Err-drive-clause-count g c =
    count-back c.drive.new.journals _ c.args.journals.now.len (omega (arith, c.deref_mut.ensures.len, c.drive.auto.journals)) ∙ omega (arith, c.deref_mut.ensures.len, c.drive.auto.journals, c.in-Err-drive.ensures.journals)
