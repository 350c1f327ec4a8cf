-- The slots of one group.
use Rattle.std.specs.Prelude.{ℕ, ◌+◌, ◌≤◌, ◌==◌, ◌&&◌, ◌||◌, not, Bool, false, nat_lt, List, [], ◌∷◌, ◌++◌, length, drop, filter, Option, None, Some}
use Rattle.std.specs.List.{list_any}
use Rattle.gx_ids.specs.declared.ids.SessionId.{SessionId}

-- how many slots there are; who holds one, in the order in which they took them; who asks for one, in the order in which
-- they asked; and which of the group's sessions do neither
pub record Slots : Type 0 where
  pub limit : ℕ
  pub holders : List SessionId
  pub askers : List SessionId
  pub idle : List SessionId

abbrev pub is : SessionId → SessionId → Bool
is s other = other.0 == s.0

abbrev pub has : SessionId → List SessionId → Bool
has s sessions = list_any (is s) sessions

abbrev pub without : SessionId → List SessionId → List SessionId
without s sessions = filter (λ other. not (is s other)) sessions

abbrev pub is_first : SessionId → List SessionId → Bool
is_first s [] = false
is_first s (first ∷ _) = is s first

abbrev pub first_in : List SessionId → Option SessionId
first_in [] = None
first_in (first ∷ _) = Some first

-- a group of which nobody holds a slot or asks for one
abbrev pub fresh : ℕ → List SessionId → Slots
fresh limit members = record { limit = limit; holders = []; askers = []; idle = members }

-- the session asks and nobody asked before it, and a slot is free
abbrev pub lets : Slots → SessionId → Bool
lets slots s = is_first s slots.askers && nat_lt (length slots.holders) slots.limit

-- the slots after a session asked, took one, or gave one back
abbrev pub asked : Slots → SessionId → Slots
asked slots s = record slots { askers = slots.askers ++ s ∷ []; idle = without s slots.idle }

abbrev pub taken : Slots → SessionId → Slots
taken slots s = record slots { holders = slots.holders ++ s ∷ []; askers = drop 1 slots.askers }

abbrev pub given : Slots → SessionId → Slots
given slots s = record slots { holders = without s slots.holders; idle = slots.idle ++ s ∷ [] }

-- a session of the group
abbrev pub is_member : SessionId → Slots → Bool
is_member s slots = has s slots.holders || has s slots.askers || has s slots.idle

-- nobody has to wait for memory: as many as there are may hold, ask or be idle
pub record HasRoom (holders askers idle holders_room askers_room idle_room : ℕ) : Type 0 where
  pub to_hold : holders + askers + idle ≤ holders_room
  pub to_ask : holders + askers + idle ≤ askers_room
  pub to_idle : holders + askers + idle ≤ idle_room
