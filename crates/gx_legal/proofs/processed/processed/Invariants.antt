use Rattle.std.proofs.Common.{◌≡◌, [], drop}
use Rattle.gx_legal.specs.Gathered.{processed_from}
use Rattle.gx_legal.proofs.processed.processed.Given as goal

abbrev pub invariant-loop-mark : goal.invariant-loop-mark
invariant-loop-mark l =
    let k = l.command in
    processed_from k.gxid k.cid l.rids.keys (drop l.mark-index l.marks) ≡ processed_from k.gxid k.cid [] l.marks
