use Rattle.gx_cells.specs.Done.{AreSameCells}
use Rattle.gx_apart.proofs.trying.resend_first.Given as goal

abbrev pub invariant-loop-before : goal.invariant-loop-before
invariant-loop-before g l = AreSameCells l.fn.cells l.cells
