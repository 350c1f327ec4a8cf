use Rattle.std.proofs.Common.{◌∙◌, ◌++◌, ap, inr, sym, true≢false}
use Rattle.gx.specs.Top.{ended_text, traced}
use Rattle.gx.proofs.Runs.{finished, run-reached}
use Rattle.gx.proofs.in_threads.told.Goals as goal

pub returns-in-Ok-clause-ran : goal.returns-in-Ok-clause-ran
returns-in-Ok-clause-ran c =
    let script = c.args.script.now in
    record {
      is = run-reached script c.args.options c.args.run c.requires.language c.requires.inserts c.requires.reached c.requires.starts (λ off. absurd (true≢false (sym c.requires.threads ∙ off))) (λ _. c.requires.merged);
      done = c.requires.done;
      ended = λ off. absurd (true≢false (sym c.requires.threads ∙ off));
      over = finished script c.args.run.steps c.requires.language c.requires.reached c.requires.done;
      told = record { tables = c.args.tables.items; final = c.requires.tables; told = c.in-Ok.ensures ∙ ap (λ ts. ended_text c.args.options.work script c.args.run ts ++ traced c.args.options.trace script c.args.run) c.as_slice.ensures.value };
    }

pub returns-clause-ran : goal.returns-clause-ran
returns-clause-ran c =
    inr (run-reached c.args.script.now c.args.options c.args.run c.requires.language c.requires.inserts c.requires.reached c.requires.starts (λ off. absurd (true≢false (sym c.requires.threads ∙ off))) (λ _. c.requires.merged))
