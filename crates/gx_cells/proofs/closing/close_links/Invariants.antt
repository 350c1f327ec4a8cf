use Rattle.std.proofs.Common.{length}
use Rattle.gx_cells.proofs.LinkPairs.{AreLeft}
use Rattle.gx_cells.proofs.closing.close_links.Given as goal

abbrev pub invariant-loop-out : goal.invariant-loop-out
invariant-loop-out g l = AreLeft l.fn.outs.items l.fn.inboxes.items l.outs.items l.inboxes.items

abbrev pub decreases-loop-out : goal.decreases-loop-out
decreases-loop-out g l = length l.outs.items
