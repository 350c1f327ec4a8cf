use Rattle.std.proofs.Common.{◌≡◌, Ok, List, take}
use Rattle.gx_tree.specs.declared.row.KeyedRow.{KeyedRow}
use Rattle.gx_meaning.specs.Constants.{rows_of}
use Rattle.gx_meaning.specs.Plan.{dealt}
use Rattle.gx_plan.proofs.insertion.dealt_rows.Given as goal

abbrev pub invariant-loop-tuple : goal.invariant-loop-tuple
invariant-loop-tuple l =
    (rows : List KeyedRow) × (rows_of l.gxid l.cid (take l.tuple-index l.tuples) ≡ Ok rows) × (l.buckets.items ≡ dealt l.n l.schema.dist rows) × (l.ordinal ≡ l.tuple-index)
