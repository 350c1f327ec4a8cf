use Rattle.std.proofs.Common.{◌≡◌, ◌++◌, map}
use Rattle.std.specs.List.{zip}
use Rattle.gx_meaning.specs.Tallies.{entry_group, out_cell, out_row}
use Rattle.gx_gather.proofs.output.entry_out.Given as goal

abbrev pub invariant-loop-item : goal.invariant-loop-item
invariant-loop-item l =
    l.out.items ++ map (λ p. out_cell l.query.group l.entry.0 p.0 p.1) (zip l.item-iterator.a.rest.now l.item-iterator.b.rest.now) ≡ out_row l.query (entry_group l.entry)
