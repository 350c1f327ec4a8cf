use Rattle.std.proofs.Common.{◌≡◌, take}
use Rattle.std.specs.List.{list_any}
use Rattle.gx_legal.specs.Places.{is_snapshot, places_from}
use Rattle.gx_legal.specs.Told.{has_shown, is_shown_at}
use Rattle.gx_legal.proofs.shown.has_shown.Given as goal

abbrev pub invariant-loop-place : goal.invariant-loop-place
invariant-loop-place l =
    let k = l.command in
    list_any (is_shown_at l.marks k.gxid k.cid l.query l.answer) (places_from (is_snapshot k.level k.gxid k.cid) 0 (take l.place l.marks))
    ≡ has_shown l.marks k.level k.gxid k.cid l.query l.answer
