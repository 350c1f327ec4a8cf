use Rattle.std.proofs.Common.{◌∙◌, Some, ap}
use Rattle.gx_legal.proofs.OwnRows.{noted-at}
use Rattle.gx_legal.proofs.own.note_first.Goals as goal

pub returns : goal.returns
returns c =
    noted-at c.args.firsts.now c.set_first.new.firsts c.args.gxid c.args.place (c.in_ok-set_first.ensures.there ∙ ap Some c.first_or-first.ensures) c.in_ok-set_first.ensures.elsewhere
