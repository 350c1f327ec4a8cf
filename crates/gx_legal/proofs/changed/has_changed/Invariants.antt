use Rattle.std.proofs.Common.{◌≡◌, take}
use Rattle.std.specs.List.{list_any}
use Rattle.gx_legal.specs.RowsDone.{is_done_at}
use Rattle.gx_legal.specs.Places.{is_snapshot, places_from, snapshots}
use Rattle.gx_legal.proofs.changed.has_changed.Given as goal

abbrev pub invariant-loop-place : goal.invariant-loop-place
invariant-loop-place l =
    let k = l.command in
    list_any (is_done_at l.marks k.gxid k.cid l.table l.cond) (places_from (is_snapshot k.level k.gxid k.cid) 0 (take l.place l.marks))
    ≡ list_any (is_done_at l.marks k.gxid k.cid l.table l.cond) (snapshots l.marks k.level k.gxid k.cid)
