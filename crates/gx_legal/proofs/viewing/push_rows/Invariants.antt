use Rattle.std.proofs.Common.{◌≡◌, ◌++◌}
use Rattle.gx_legal.specs.Viewed.{listed}
use Rattle.gx_legal.proofs.viewing.push_rows.Given as goal

abbrev pub invariant-loop-rid : goal.invariant-loop-rid
invariant-loop-rid l = l.rows.items ++ listed l.rid-iterator ≡ l.fn.rows.items ++ listed l.images.entries
