use Rattle.std.proofs.Common.{◌+◌, ◌*◌, length}
use Rattle.gx_detect.specs.Reducing.{AreNoted, IsCounted, IsFollowed, rest_of}
use Rattle.gx_detect.proofs.settle.follow.Given as goal

abbrev pub invariant-loop-place : goal.invariant-loop-place
invariant-loop-place l = record {
  counted : IsCounted l.edges l.rest;
  noted : AreNoted l.wants.aim l.edges l.rest;
  followed : IsFollowed l.wants.aim l.edges l.initial.rest l.rest;
}

abbrev pub decreases-loop-place : goal.decreases-loop-place
decreases-loop-place l = 3 * length (rest_of l.edges l.rest) + length l.rest.freed.items
