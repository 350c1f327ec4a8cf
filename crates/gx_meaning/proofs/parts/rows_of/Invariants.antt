use Rattle.std.proofs.Common.{◌≡◌, ◌++◌, map, drop}
use Rattle.std.specs.List.{flat_map}
use Rattle.gx_meaning.specs.Answer.{rows_in}
use Rattle.gx_meaning.proofs.parts.rows_of.Given as goal

abbrev pub invariant-loop-part : goal.invariant-loop-part
invariant-loop-part l = map (λ row. row.now) l.rows.items ++ flat_map rows_in (drop l.part-index l.parts) ≡ flat_map rows_in l.parts
