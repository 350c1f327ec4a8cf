use Rattle.std.proofs.Common.{◌↔◌, IsTrue, List, subst}
use Rattle.std.specs.List.{AllByRecursion}
use Rattle.gx_meaning.specs.declared.piece.Piece.{Piece}
use Rattle.gx_legal.proofs.Completing.{back-is}
use Rattle.gx_legal.specs.Done.{IsPieceBack}
use Rattle.gx_legal.specs.Moments.{point_of}
use Rattle.gx_legal.proofs.done.is_back.Goals as goal

pub returns : goal.returns
returns c =
    let p = point_of c.args.moment.now in
    let k = c.args.command in
    back-is c.args.moment.now.script.now p k.gxid k.cid c.args.stmt.now c.in_ok-pieces.pieces.items c.are_back.result c.in_ok-pieces.ensures
    (subst (λ (pieces : List Piece). IsTrue c.are_back.result ↔ AllByRecursion (IsPieceBack p k.gxid k.cid) pieces) c.deref.ensures.value c.are_back.ensures)
