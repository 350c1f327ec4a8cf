-- All groups, and where each session stands.
use Rattle.std.specs.Prelude.{◌≡◌, ℕ, ◌+◌, ◌≤◌, ◌<◌, ◌==◌, ◌&&◌, not, Bool, true, false, if◌then◌else◌, List, [], ◌∷◌, length, All, slice_get, slice_set, Option, None, Some}
use Rattle.std.specs.List.{slice_index_or}
use Rattle.gx_ids.specs.declared.ids.SessionId.{SessionId}
use Rattle.gx_groups.specs.declared.seat.Seat.{Seat}
use Rattle.gx_groups.specs.declared.seat.Seat.TheVariants.{Grouped, Alone}
use Rattle.gx_groups.specs.declared.seat.Standing.{Standing}
use Rattle.gx_groups.specs.declared.seat.Standing.TheVariants.{Idle, Asking, Holding}
use Rattle.gx_groups.specs.Seats.{is_known_at}
use Rattle.gx_groups.specs.Slots.{Slots, first_in, has, fresh, lets, asked, taken, given, is_member}

-- the groups by their places, and the sessions by their numbers
pub record Table : Type 0 where
  pub groups : List Slots
  pub seats : List Seat

-- NEW TABLES
abbrev pub is_in : ℕ → Option ℕ → Bool
is_in place None = false
is_in place (Some at) = at == place

-- the sessions of the group at a place, where `of` tells the groups of the sessions from a number on
abbrev pub members_of : ℕ → ℕ → List (Option ℕ) → List SessionId
members_of place number [] = []
members_of place number (group ∷ of) =
    if is_in place group then record { 0 = number } ∷ members_of place (number + 1) of else members_of place (number + 1) of

-- the groups from a place on, by their limits
abbrev pub fresh_groups : List (Option ℕ) → ℕ → List ℕ → List Slots
fresh_groups of place [] = []
fresh_groups of place (limit ∷ limits) = fresh limit (members_of place 0 of) ∷ fresh_groups of (place + 1) limits

abbrev pub new_seat : Option ℕ → Seat
new_seat None = Alone Idle
new_seat (Some place) = Grouped place

-- a session's group is one of so many
abbrev pub IsWithin : ℕ → Option ℕ → Type 0
IsWithin groups None = Unit {0}
IsWithin groups (Some place) = place < groups

-- WHAT A SESSION DOES
abbrev pub seat_of : Table → SessionId → Option Seat
seat_of t s = slice_get t.seats s.0

abbrev pub group_at : Table → ℕ → Slots
group_at t place = slice_index_or t.groups place (fresh 0 [])

abbrev pub is_asking : Standing → Bool
is_asking Asking = true
is_asking _ = false

abbrev pub is_holding : Standing → Bool
is_holding Holding = true
is_holding _ = false

abbrev pub asks_at : Table → SessionId → Option Seat → Bool
asks_at t s None = false
asks_at t s (Some (Grouped place)) = has s (group_at t place).askers
asks_at t s (Some (Alone standing)) = is_asking standing

abbrev pub holds_at : Table → SessionId → Option Seat → Bool
holds_at t s None = false
holds_at t s (Some (Grouped place)) = has s (group_at t place).holders
holds_at t s (Some (Alone standing)) = is_holding standing

abbrev pub may_at : Table → SessionId → Option Seat → Bool
may_at t s None = false
may_at t s (Some (Grouped place)) = lets (group_at t place) s
may_at t s (Some (Alone standing)) = is_asking standing

-- there is such a session
abbrev pub is_known : Table → SessionId → Bool
is_known t s = is_known_at (seat_of t s)

-- it asks for a slot
abbrev pub asks : Table → SessionId → Bool
asks t s = asks_at t s (seat_of t s)

-- it holds a slot
abbrev pub holds : Table → SessionId → Bool
holds t s = holds_at t s (seat_of t s)

-- it asks, and it has no group, or nobody of its group asked before it and a slot is free
abbrev pub may : Table → SessionId → Bool
may t s = may_at t s (seat_of t s)

abbrev pub first_at : Table → Option Seat → Option SessionId
first_at t (Some (Grouped place)) = first_in (group_at t place).askers
first_at t _ = None

-- of the session's group, who asked before all others that ask
abbrev pub first_asker : Table → SessionId → Option SessionId
first_asker t s = first_at t (seat_of t s)

-- it asks, and may not take a slot
abbrev pub is_held_up : Table → SessionId → Bool
is_held_up t s = asks t s && not (may t s)

-- WHAT CALLS CHANGE
abbrev pub with_group : Table → ℕ → Slots → Table
with_group t place slots = record t { groups = slice_set t.groups place slots }

abbrev pub with_standing : Table → SessionId → Standing → Table
with_standing t s standing = record t { seats = slice_set t.seats s.0 (Alone standing) }

-- the session's group changes as told, or, where it has none, what it does itself
abbrev pub changed_at : Table → SessionId → (Slots → SessionId → Slots) → Standing → Option Seat → Table
changed_at t s change standing None = t
changed_at t s change standing (Some (Grouped place)) = with_group t place (change (group_at t place) s)
changed_at t s change standing (Some (Alone _)) = with_standing t s standing

abbrev pub after_ask : Table → SessionId → Table
after_ask t s = changed_at t s asked Asking (seat_of t s)

abbrev pub after_take : Table → SessionId → Table
after_take t s = changed_at t s taken Holding (seat_of t s)

abbrev pub after_give : Table → SessionId → Table
after_give t s = changed_at t s given Idle (seat_of t s)

-- WHAT HOLDS ALWAYS
-- no more slots are held than there are
abbrev pub KeepsLimit : Slots → Type 0
KeepsLimit slots = length slots.holders ≤ slots.limit

-- limits are kept, and a session is one of its group's
pub record IsWhole (groups : List Slots) (seats : List Seat) : Type 0 where
  pub limits : All KeepsLimit groups
  pub within : (number place : ℕ) → slice_get seats number ≡ Some (Grouped place) → place < length groups
  pub members : (number place : ℕ) → slice_get seats number ≡ Some (Grouped place) → is_member (record { 0 = number }) (slice_index_or groups place (fresh 0 [])) ≡ true
