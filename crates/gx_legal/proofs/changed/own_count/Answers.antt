use Rattle.std.proofs.Common.{◌∙◌}
use Rattle.gx_legal.proofs.OwnRows.{counted-own}
use Rattle.gx_legal.proofs.changed.own_count.Goals as goal

pub returns : goal.returns
returns c =
    let a = c.args in
    c.write_count.ensures ∙ counted-own a.command.gxid a._marks.now a.own.now c.requires a.command.cid
