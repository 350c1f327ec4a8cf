use Rattle.std.specs.Prelude.{ℕ, List, []}
use Rattle.gx_locks.specs.declared.hold.Hold.{Hold}

-- holds in the order in which they came, and for how many more there is room
pub record Rack : Type 0 where
  pub holds : List Hold
  pub places : ℕ

abbrev pub no_shelf : Rack
no_shelf = record { holds = []; places = 0 }
