use Rattle.std.proofs.Common.{◌↔◌, drop}
use Rattle.std.specs.List.{AllByRecursion}
use Rattle.gx_legal.specs.Done.{IsPieceBack}
use Rattle.gx_legal.specs.Moments.{point_of}
use Rattle.gx_legal.proofs.done.are_back.Given as goal

abbrev pub invariant-loop-piece : goal.invariant-loop-piece
invariant-loop-piece l =
    AllByRecursion (IsPieceBack (point_of l.moment) l.command.gxid l.command.cid) (drop l.piece-index l.pieces) ↔ AllByRecursion (IsPieceBack (point_of l.moment) l.command.gxid l.command.cid) l.pieces
