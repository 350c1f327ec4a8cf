use Rattle.gx_threads.specs.Sets.{IsSameSet}
use Rattle.gx_threads.proofs.threads.run_cells.Given as goal

abbrev pub invariant-loop : goal.invariant-loop
invariant-loop g l = IsSameSet l.initial.cells.coord l.initial.cells.segments l.cells.coord l.cells.segments
