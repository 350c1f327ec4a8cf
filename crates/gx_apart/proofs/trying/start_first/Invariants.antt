use Rattle.gx_cells.specs.Done.{AreSameCells}
use Rattle.gx_apart.proofs.trying.start_first.Given as goal

abbrev pub invariant-loop-place : goal.invariant-loop-place
invariant-loop-place g l = AreSameCells l.fn.cells l.cells
