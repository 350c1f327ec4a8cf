-- Lists of calls, and the tables to which they lead.
use Rattle.std.specs.Prelude.{◌≡◌, ℕ, ◌==◌, Bool, true, false, if◌then◌else◌, List, [], ◌∷◌, ◌++◌, map, Option, Some}
use Rattle.gx_ids.specs.declared.ids.SessionId.{SessionId}
use Rattle.gx_groups.specs.declared.seat.Seat.{Seat}
use Rattle.gx_groups.specs.declared.seat.Seat.TheVariants.{Grouped}
use Rattle.gx_groups.specs.declared.seat.Standing.{Standing}
use Rattle.gx_groups.specs.declared.seat.Standing.TheVariants.{Idle, Asking, Holding}
use Rattle.gx_groups.specs.Slots.{is}
use Rattle.gx_groups.specs.Table.{Table, new_seat, fresh_groups, seat_of, is_known, asks, holds, may, after_ask, after_take, after_give}

-- a call that changes the table
pub data Call : Type 0 where
  Ask : (s : SessionId) → Call
  Take : (s : SessionId) → Call
  Give : (s : SessionId) → Call

-- the call may be made
abbrev pub Admits : Table → Call → Type 0
Admits t (Ask s) = (is_known t s ≡ true) × (asks t s ≡ false) × (holds t s ≡ false)
Admits t (Take s) = may t s ≡ true
Admits t (Give s) = holds t s ≡ true

abbrev pub on : Table → Call → Table
on t (Ask s) = after_ask t s
on t (Take s) = after_take t s
on t (Give s) = after_give t s

-- the table of which nothing was asked
abbrev pub fresh_table : List ℕ → List (Option ℕ) → Table
fresh_table limits of = record { groups = fresh_groups of 0 limits; seats = map new_seat of }

-- the table after the calls; the last call stands first
abbrev pub after : Table → List Call → Table
after t [] = t
after t (call ∷ before) = on (after t before) call

-- each call might be made
abbrev pub IsRun : Table → List Call → Type 0
IsRun t [] = Unit {0}
IsRun t (call ∷ before) = IsRun t before × Admits (after t before) call

-- WHAT THE CALLS TELL
-- the session is one of the group at a place
abbrev pub is_seated : ℕ → Option Seat → Bool
is_seated place (Some (Grouped at)) = at == place
is_seated place _ = false

-- the session alone, or nobody
abbrev pub only_if : Bool → SessionId → List SessionId
only_if true s = s ∷ []
only_if false s = []

-- the sessions of a group that asked, and those that took a slot, in the order in which they did
abbrev pub asked_by : Table → ℕ → List Call → List SessionId
asked_by t place [] = []
asked_by t place (Ask s ∷ before) = asked_by t place before ++ only_if (is_seated place (seat_of t s)) s
asked_by t place (_ ∷ before) = asked_by t place before

abbrev pub taken_by : Table → ℕ → List Call → List SessionId
taken_by t place [] = []
taken_by t place (Take s ∷ before) = taken_by t place before ++ only_if (is_seated place (seat_of t s)) s
taken_by t place (_ ∷ before) = taken_by t place before

-- what a session does: it asks from its ask to its take, and holds from its take to its give
abbrev pub standing_after : SessionId → List Call → Standing
standing_after s [] = Idle
standing_after s (Ask other ∷ before) = if is s other then Asking else standing_after s before
standing_after s (Take other ∷ before) = if is s other then Holding else standing_after s before
standing_after s (Give other ∷ before) = if is s other then Idle else standing_after s before
