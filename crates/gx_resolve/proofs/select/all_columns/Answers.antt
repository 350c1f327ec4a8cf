use Rattle.std.proofs.Common.{◌∙◌, sym}
use Rattle.gx_resolve.proofs.Each.{columns_more}
use Rattle.gx_resolve.proofs.select.all_columns.Goals as goal

pub loop-place-preserved : goal.loop-place-preserved
loop-place-preserved c =
    rw c.in_ok-push.ensures.ok (sym (columns_more c.args.columns.now c.loop-place.place c.loop-place.items c.loop-place-test.true) ∙ c.loop-place.invariant)
