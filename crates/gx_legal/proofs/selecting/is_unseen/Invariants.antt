use Rattle.std.proofs.Common.{◌≡◌, take}
use Rattle.std.specs.List.{list_any}
use Rattle.gx_legal.specs.Places.{is_snapshot, places_from}
use Rattle.gx_legal.specs.Selected.{is_unseen, is_unseen_at}
use Rattle.gx_legal.proofs.selecting.is_unseen.Given as goal

abbrev pub invariant-loop-place : goal.invariant-loop-place
invariant-loop-place l =
    let k = l.choice.command in
    let c = l.choice in
    list_any (is_unseen_at l.marks k.gxid k.cid c.table c.cond.now c.rid l.writer) (places_from (is_snapshot k.level k.gxid k.cid) 0 (take l.place l.marks))
    ≡ is_unseen l.marks k.level k.gxid k.cid c.table c.cond.now c.rid l.writer
