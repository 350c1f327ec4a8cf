use Rattle.gx_cells.specs.Done.{AreSameCells}
use Rattle.gx_apart.proofs.driving.drive.Given as goal

abbrev pub invariant-loop-turn : goal.invariant-loop-turn
invariant-loop-turn g l = AreSameCells l.fn.cells l.cells
