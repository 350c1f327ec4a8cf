use Rattle.std.proofs.Common.{◌≡◌, map, take}
use Rattle.gx_meaning.specs.Tallies.{entry_group, out_row}
use Rattle.gx_gather.proofs.output.entries_out.Given as goal

abbrev pub invariant-loop-entry : goal.invariant-loop-entry
invariant-loop-entry l = l.out.items ≡ map (λ entry. out_row l.query (entry_group entry)) (take l.entry-index l.entries)
