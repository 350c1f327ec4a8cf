-- Whether a segment has numbers left for one more event.
use Rattle.std.specs.Prelude.{◌^◌, ◌&&◌, nat_lt, Bool}
use Rattle.gx_rules.specs.Segments.{Seg}

-- its clock, and the number of its last message, are below 2^62
abbrev pub has_room : Seg → Bool
has_room s = nat_lt s.clock (2 ^ 62) && nat_lt s.sent (2 ^ 62)
