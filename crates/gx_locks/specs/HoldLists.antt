-- The holds of a list, however it keeps them.
use Rattle.std.specs.Prelude.{ℕ, ◌-◌, List, [], ◌∷◌, length}
use Rattle.std.specs.Vec.{vec_capacity}
use Rattle.gx_locks.specs.declared.hold.Hold.{Hold}
use Rattle.gx_locks.specs.declared.hold_list.HoldList.{HoldList}
use Rattle.gx_locks.specs.declared.hold_list.HoldList.TheVariants.{Empty, One, Two, Many}

abbrev pub held : HoldList → List Hold
held Empty = []
held (One hold) = hold ∷ []
held (Two pair) = pair
held (Many holds) = holds.items

-- for how many more there is room
abbrev pub spare : HoldList → ℕ
spare Empty = 0
spare (One hold) = 0
spare (Two pair) = 0
spare (Many holds) = vec_capacity holds - length holds.items
