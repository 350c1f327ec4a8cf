use Rattle.std.proofs.Common.{◌≡◌, take}
use Rattle.std.specs.List.{count_by}
use Rattle.gx_detect.specs.declared.place.Place.{Place}
use Rattle.gx_detect.specs.Place.{waits_in}
use Rattle.gx_detect.specs.Tally.{count_at}
use Rattle.gx_detect.proofs.tally.Tally.of.Given as goal

abbrev pub invariant-loop-edge : goal.invariant-loop-edge
invariant-loop-edge l = (p : Place) → count_at l.tally p ≡ count_by (waits_in p) (take l.edge-index l.edges)
