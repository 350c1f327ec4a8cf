use Rattle.std.proofs.Common.{◌≡◌, take}
use Rattle.gx_meaning.specs.Place.{hash_of}
use Rattle.gx_plan.proofs.fnv.hash.Given as goal

abbrev pub invariant-loop-byte : goal.invariant-loop-byte
invariant-loop-byte l = l.hash ≡ hash_of (take l.byte-index l.bytes)
