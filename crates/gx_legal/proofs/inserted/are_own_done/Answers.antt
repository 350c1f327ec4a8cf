use Rattle.std.proofs.Common.{◌∙◌}
use Rattle.gx_legal.proofs.Gathered.{all-own}
use Rattle.gx_legal.proofs.OwnRows.{own-done-own}
use Rattle.gx_legal.proofs.inserted.are_own_done.Goals as goal

pub returns : goal.returns
returns c =
    let a = c.args in
    let k = a.command in
    c.are_ordinals_in.ensures ∙ all-own a.own.now k.gxid k.cid c.in_ok-ordinals.ordinals 0 a.tuples.now c.in_ok-ordinals.ensures
    ∙ own-done-own k.gxid a._marks.now a.own.now c.requires k.cid 0 a.tuples.now
