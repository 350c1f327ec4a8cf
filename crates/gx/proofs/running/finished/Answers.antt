use Rattle.std.proofs.Common.{◌≡◌, false, inr, refl, subst, sym}
use Rattle.gx_store.specs.Schedule.{is_any_unfinished}
use Rattle.gx_store.specs.declared.run.Run.{Run}
use Rattle.gx_drive.specs.Ends.{IsEnd}
use Rattle.gx_drive.specs.declared.end.End.TheVariants.{Done}
use Rattle.gx_law_runs.specs.Endings.{IsFinished}
use Rattle.gx.specs.Top.{IsEndedText}
use Rattle.gx.proofs.Runs.{finished, run-in}
use Rattle.gx.proofs.running.finished.Goals as goal

pub returns-in-Ok-clause-ran : goal.returns-in-Ok-clause-ran
returns-in-Ok-clause-ran c =
    let same = sym c.into_run.ensures.value in
    record {
      is = run-in c.args.world.script c.args.options c.args.world c.into_run.result c.requires.alone refl c.into_run.ensures.value c.requires.language c.requires.inserts c.into_run.ensures.reached c.requires.driven c.requires.ended.within;
      done = subst (λ (r : Run). is_any_unfinished c.args.world.script r.steps ≡ false) same (c.requires.ended.done.0 refl);
      ended = λ _. subst (λ (r : Run). IsEnd c.args.world.script r.steps c.args.options.turns Done) same c.requires.ended;
      over = subst (IsFinished c.args.world.script) same (finished c.args.world.script c.args.world.run.steps c.requires.language c.into_run.ensures.reached (c.requires.ended.done.0 refl));
      told = subst (λ (r : Run). IsEndedText c.args.world.script c.args.options r c.in-Ok.text.items) same c.in-Ok.ensures;
    }

pub returns-in-Err-clause-ran : goal.returns-in-Err-clause-ran
returns-in-Err-clause-ran c =
    inr (run-in c.args.world.script c.args.options c.args.world c.into_run-in-Err.result c.requires.alone refl c.into_run-in-Err.ensures.value c.requires.language c.requires.inserts c.into_run-in-Err.ensures.reached c.requires.driven c.requires.ended.within)
