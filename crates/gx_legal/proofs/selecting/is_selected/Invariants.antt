use Rattle.std.proofs.Common.{◌≡◌, take}
use Rattle.std.specs.List.{list_any}
use Rattle.gx_legal.specs.Places.{is_snapshot, places_from}
use Rattle.gx_legal.specs.Selected.{is_chosen_at, is_selected}
use Rattle.gx_legal.proofs.selecting.is_selected.Given as goal

abbrev pub invariant-loop-place : goal.invariant-loop-place
invariant-loop-place l =
    let k = l.choice.command in
    let c = l.choice in
    list_any (is_chosen_at l.marks k.gxid k.cid c.table c.cond.now c.rid) (places_from (is_snapshot k.level k.gxid k.cid) 0 (take l.place l.marks))
    ≡ is_selected l.marks k.level k.gxid k.cid c.table c.cond.now c.rid
