use Rattle.std.proofs.Common.{inr, refl, subst, sym}
use Rattle.gx_store.specs.declared.run.Run.{Run}
use Rattle.gx_drive.specs.Ends.{IsEnd}
use Rattle.gx_drive.specs.declared.end.End.TheVariants.{Turns}
use Rattle.gx_report.specs.Stops.{turns_spent}
use Rattle.gx.specs.Top.{IsStoppedText}
use Rattle.gx.proofs.Runs.{run-in}
use Rattle.gx.proofs.running.stopped.Goals as goal

pub returns-in-Ok-clause-ran : goal.returns-in-Ok-clause-ran
returns-in-Ok-clause-ran c =
    let same = sym c.into_run.ensures.value in
    record {
      is = run-in c.args.world.script c.args.options c.args.world c.into_run.result c.requires.alone refl c.into_run.ensures.value c.requires.language c.requires.inserts c.into_run.ensures.reached c.requires.driven c.requires.ended.within;
      alone = c.requires.alone;
      ended = subst (λ (r : Run). IsEnd c.args.world.script r.steps c.args.options.turns Turns) same c.requires.ended;
      told = subst (λ (r : Run). IsStoppedText c.args.world.script c.args.options r turns_spent c.in-Ok.text.items) same c.in-Ok.ensures;
    }

pub returns-in-Err-clause-ran : goal.returns-in-Err-clause-ran
returns-in-Err-clause-ran c =
    inr (run-in c.args.world.script c.args.options c.args.world c.into_run-in-Err.result c.requires.alone refl c.into_run-in-Err.ensures.value c.requires.language c.requires.inserts c.into_run-in-Err.ensures.reached c.requires.driven c.requires.ended.within)
