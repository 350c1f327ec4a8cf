use Rattle.std.proofs.Common.{subst, sym}
use Rattle.gx_legal.proofs.Planning.{unplanned-sent}
use Rattle.gx_legal.specs.Done.{AreSent}
use Rattle.gx_legal.proofs.pieces.pieces_of.Goals as goal

pub returns-in-None : goal.returns-in-None
returns-in-None c =
    let k = c.args.command in
    subst (AreSent c.args.script.now k.gxid k.cid c.args.stmt.now) (sym c.no_pieces.ensures)
    (unplanned-sent c.args.script.now k.gxid k.cid c.args.stmt.now c.requires.line (sym c.in-None.ensures))
