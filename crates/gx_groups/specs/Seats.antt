-- Sessions that there are.
use Rattle.std.specs.Prelude.{Bool, true, false, Option, None, Some}
use Rattle.gx_groups.specs.declared.seat.Seat.{Seat}

abbrev pub is_known_at : Option Seat → Bool
is_known_at None = false
is_known_at (Some _) = true
