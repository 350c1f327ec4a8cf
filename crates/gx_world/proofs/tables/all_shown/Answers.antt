use Rattle.std.proofs.Common.{◌++◌, ap, ◌∙◌}
use Rattle.gx_world.specs.Tables.{shown_by}
use Rattle.gx_world.proofs.Gathered.{shown-more}
use Rattle.gx_world.proofs.tables.all_shown.Goals as goal

pub loop-place-preserved : goal.loop-place-preserved
loop-place-preserved c =
    c.in_ok-append.ensures.items
    ∙ ap (λ rs. rs ++ c.in_ok-more.more.items) c.loop-place.invariant
    ∙ ap (λ rs. shown_by c.args.network.now.script.value c.args.network.now.run.steps c.args.snapshot.now c.args.table c.loop-place.place ++ rs) c.in_ok-more.ensures
    ∙ shown-more c.args.network.now.script.value c.args.network.now.run.steps c.args.snapshot.now c.args.table c.loop-place.place
