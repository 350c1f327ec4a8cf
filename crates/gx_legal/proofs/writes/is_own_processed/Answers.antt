use Rattle.std.proofs.Common.{◌∙◌}
use Rattle.gx_legal.proofs.OwnRows.{processed-own}
use Rattle.gx_legal.proofs.writes.is_own_processed.Goals as goal

pub returns : goal.returns
returns c =
    let a = c.args in
    c.is_processed.ensures ∙ processed-own a.command.gxid a._marks.now a.own.now c.requires a.command.cid a.rid
