use Rattle.gx_legal.proofs.Numbering.{number-in}
use Rattle.gx_legal.specs.Moments.{point_of}
use Rattle.gx_legal.proofs.refusals.is_refused_for.Goals as goal

pub number_in-requires : goal.number_in-requires
number_in-requires c =
    let m = c.args.moment.now in
    number-in m.script.now (point_of m) c.args.session m.before.now c.standing_at-block.result.block m.whole c.standing_at-block.ensures.is.state c.requires
