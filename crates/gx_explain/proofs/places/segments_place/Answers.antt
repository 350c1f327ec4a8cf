use Rattle.gx_lines.specs.Heads.{segments}
use Rattle.gx_explain.proofs.Stopped.{stopped-at}
use Rattle.gx_explain.proofs.places.segments_place.Goals as goal

pub returns-in-Err-Fault : goal.returns-in-Err-Fault
returns-in-Err-Fault c =
    let here = c.in-Err-Fault in
    stopped-at segments c.limits.result c.args.tokens.now here.field-0 here.field-0-0 here.left _ c.checked_sub.result here.field-0-is here.left-is c.limits.ensures here.ensures.place c.checked_sub.ensures
