use Rattle.std.proofs.Common.{◌≡◌, ◌+◌, drop}
use Rattle.gx_meaning.specs.Groups.{place_of}
use Rattle.gx_gather.proofs.order.place_of.Given as goal

abbrev pub invariant-loop-place : goal.invariant-loop-place
invariant-loop-place l = place_of l.group l.column ≡ l.place + place_of (drop l.place l.group) l.column
