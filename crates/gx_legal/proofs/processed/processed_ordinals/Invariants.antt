use Rattle.std.proofs.Common.{◌≡◌, [], drop}
use Rattle.gx_legal.specs.Gathered.{ordinals_from}
use Rattle.gx_legal.proofs.processed.processed_ordinals.Given as goal

abbrev pub invariant-loop-mark : goal.invariant-loop-mark
invariant-loop-mark l =
    let k = l.command in
    ordinals_from k.gxid k.cid l.ordinals.keys (drop l.mark-index l.marks) ≡ ordinals_from k.gxid k.cid [] l.marks
