use Rattle.std.proofs.Common.{◌<◌, ◌∙◌, ap, length, slice_index, subst, sym}
use Rattle.gx_coord.proofs.Numbering.{counted-is}
use Rattle.gx_coord.proofs.sending.send_one.Goals as goal

pub returns-clause-sent : goal.returns-clause-sent
returns-clause-sent c =
    let sent = c.args.sent.now.items in
    let inside = subst (λ n. n < length sent) (sym c.from-place.ensures) c.requires.inside in
    ap slice_index c.count-number.ensures.sent ∙ counted-is sent c.from-place.result c.count-number.result c.args.out c.from-place.ensures inside c.count-number.ensures.number
