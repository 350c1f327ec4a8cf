use Rattle.std.proofs.Common.{◌∙◌, ◌+◌, ◌∷◌, [], ap, arith, length, length-append, subst, sym}
use Rattle.gx_law_reads.specs.Sights.{AreRowsOfAll}
use Rattle.gx_law_runs.specs.Replays.{world_behind}
use Rattle.gx_world.proofs.Gathered.{tables-more}
use Rattle.gx_world.proofs.tables.tables.Goals as goal

pub loop-number-preserved : goal.loop-number-preserved
loop-number-preserved c = record {
  count = ap length c.in_ok-push.ensures.items ∙ length-append c.loop-number.tables.items (_ ∷ []) ∙ ap (λ n. n + 1) c.loop-number.invariant.count;
  are = subst (AreRowsOfAll 0 (world_behind c.args.network.now.script.value c.args.network.now.run.steps)) (sym c.in_ok-push.ensures.items)
      (tables-more (world_behind c.args.network.now.script.value c.args.network.now.run.steps) 0 c.loop-number.number c.loop-number.tables.items _ c.loop-number.invariant.are (omega (arith, c.loop-number.invariant.count)) c.in_ok-table.ensures);
}
