use Rattle.std.proofs.Common.{◌∙◌}
use Rattle.gx_slices.proofs.Unconditional.{picked-all}
use Rattle.gx_slices.proofs.picking.pick.Goals as goal

pub returns-in_ok-kept-in-None : goal.returns-in_ok-kept-in-None
returns-in_ok-kept-in-None c =
    let all = picked-all c.args.cond.now c.args.rows.items c.in-None.is in
    (all.0, c.in_ok-kept-in-None.ensures ∙ c.as_slice.ensures.value ∙ all.1)
