-- Whether the coordinator has numbers left for one more event.
use Rattle.std.specs.Prelude.{◌+◌, ◌^◌, ◌&&◌, nat_lt, Bool, map}
use Rattle.std.specs.List.{list_all, range_with_len}
use Rattle.gx_script.specs.declared.Script.{Script}
use Rattle.gx_rules.specs.Coordinators.{Coord}

-- Its clock, the numbers of its last messages to each node and of its last round are below 2^62, the clock by one more: a transaction
-- begins in a step of its own, and they are numbered from 1, so the next one's number is at most one above the clock.
abbrev pub has_room : Script → Coord → Bool
has_room script c =
    nat_lt (c.clock + 1) (2 ^ 62) && (nat_lt c.rounds (2 ^ 62) && list_all (λ sent. nat_lt sent (2 ^ 62)) (map c.sent (range_with_len 0 (script.segments + 1))))
