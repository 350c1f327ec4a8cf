use Rattle.std.proofs.Common.{◌≡◌, take}
use Rattle.std.specs.List.{list_any}
use Rattle.gx_legal.specs.Faulted.{is_seen_fault, is_seen_fault_at}
use Rattle.gx_legal.specs.Places.{is_snapshot, places_from}
use Rattle.gx_legal.proofs.faults.is_seen_fault.Given as goal

abbrev pub invariant-loop-place : goal.invariant-loop-place
invariant-loop-place l =
    let k = l.choice.command in
    let c = l.choice in
    list_any (is_seen_fault_at l.marks k.gxid k.cid c.table c.cond.now c.rid l.image l.fault) (places_from (is_snapshot k.level k.gxid k.cid) 0 (take l.place l.marks))
    ≡ is_seen_fault l.marks k.level k.gxid k.cid c.table c.cond.now c.rid l.image l.fault
