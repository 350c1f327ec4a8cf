use Rattle.std.proofs.Common.{◌≡◌}
use Rattle.std.specs.List.{list_all, zip}
use Rattle.gx_legal.specs.Told.{are_same_cells}
use Rattle.gx_legal.proofs.shown.is_same_answer.Given as goal

abbrev pub invariant-loop-row : goal.invariant-loop-row
invariant-loop-row l =
    list_all (λ p. are_same_cells p.0 p.1) (zip l.row-iterator.a.rest.now l.row-iterator.b.rest.now) ≡ list_all (λ p. are_same_cells p.0 p.1) (zip l.rows l.others)
