use Rattle.std.proofs.Common.{◌≡◌, map, take}
use Rattle.gx_meaning.specs.Answer.{row_cell}
use Rattle.gx_gather.proofs.output.row_out.Given as goal

abbrev pub invariant-loop-item : goal.invariant-loop-item
invariant-loop-item l = l.cells.items ≡ map (row_cell l.row) (take l.item-index l.items)
