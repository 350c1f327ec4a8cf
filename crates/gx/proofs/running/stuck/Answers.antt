use Rattle.std.proofs.Common.{List, inr, refl, subst, sym}
use Rattle.gx_waits.specs.declared.graph.LocalGraph.{LocalGraph}
use Rattle.gx_store.specs.declared.run.Run.{Run}
use Rattle.gx_drive.specs.Ends.{IsEnd}
use Rattle.gx_drive.specs.declared.end.End.TheVariants.{Stuck}
use Rattle.gx_report.specs.Stops.{stuck_lines}
use Rattle.gx.specs.Top.{IsStoppedText}
use Rattle.gx_drive.proofs.Undetected.{no-detector}
use Rattle.gx.proofs.Runs.{driven-let, run-in}
use Rattle.gx.proofs.running.stuck.Goals as goal

pub returns-in-Ok-clause-ran : goal.returns-in-Ok-clause-ran
returns-in-Ok-clause-ran c =
    let same = sym c.into_run.ensures.value in
    let cause = c.requires.ended.stuck.0 (c.args.graphs, refl) in
    record {
      is = run-in c.args.world.script c.args.options c.args.world c.into_run.result c.requires.alone refl c.into_run.ensures.value c.requires.language c.requires.inserts c.into_run.ensures.reached c.requires.driven c.requires.ended.within;
      alone = c.requires.alone;
      off = no-detector c.args.world.script c.args.world.run.steps c.requires.language c.requires.inserts c.into_run.ensures.reached
          (driven-let c.args.world.script c.args.options.seed c.args.world.run.steps c.requires.driven) cause.unfinished cause.nothing;
      graphs = c.args.graphs;
      ended = subst (λ (r : Run). IsEnd c.args.world.script r.steps c.args.options.turns (Stuck c.args.graphs)) same c.requires.ended;
      told = subst (λ (r : Run). IsStoppedText c.args.world.script c.args.options r (stuck_lines c.args.graphs) c.in-Ok.text.items) same
          (subst (λ (graphs : List LocalGraph). IsStoppedText c.args.world.script c.args.options c.args.world.run (stuck_lines graphs) c.in-Ok.text.items) c.as_slice.ensures c.in-Ok.ensures);
    }

pub returns-clause-ran : goal.returns-clause-ran
returns-clause-ran c =
    inr (run-in c.args.world.script c.args.options c.args.world c.into_run-in-Err.result c.requires.alone refl c.into_run-in-Err.ensures.value c.requires.language c.requires.inserts c.into_run-in-Err.ensures.reached c.requires.driven c.requires.ended.within)
