use Rattle.std.proofs.Common.{◌≡◌, [], replicate}
use Rattle.gx_world.proofs.letters.no_places.Given as goal

abbrev pub invariant-loop-link : goal.invariant-loop-link
invariant-loop-link l = l.links.items ≡ replicate l._link []
