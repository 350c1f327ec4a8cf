use Rattle.std.proofs.Common.{◌≡◌, ◌++◌}
use Rattle.gx_slices.specs.Filed.{listed_rows}
use Rattle.gx_slices.proofs.reading.rows_listed.Given as goal

abbrev pub invariant-loop-rid : goal.invariant-loop-rid
invariant-loop-rid l =
    l.rows.items ++ listed_rows l.rid-iterator l.xids l.table l.snap l.own l.cid ≡ listed_rows l.lists.entries l.xids l.table l.snap l.own l.cid
