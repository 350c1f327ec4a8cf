use Rattle.gx_cells.proofs.Links.{AreSpread}
use Rattle.gx_cells.proofs.spreading.spread.Given as goal

abbrev pub invariant-loop-place : goal.invariant-loop-place
invariant-loop-place g l = AreSpread l.clock l.marks l.fn.outs.items l.place l.outs.items
