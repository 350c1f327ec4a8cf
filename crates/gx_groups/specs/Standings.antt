-- What each session does, as the lists of its group have it.
use Rattle.std.specs.Prelude.{◌≡◌, ℕ, ◌+◌, Bool, true, false, List, [], ◌∷◌, length, Some}
use Rattle.std.specs.List.{slice_index_or}
use Rattle.gx_ids.specs.declared.ids.SessionId.{SessionId}
use Rattle.gx_groups.specs.declared.seat.Seat.{Seat}
use Rattle.gx_groups.specs.declared.seat.Seat.TheVariants.{Grouped, Alone}
use Rattle.gx_groups.specs.declared.seat.Standing.{Standing}
use Rattle.gx_groups.specs.declared.seat.Standing.TheVariants.{Idle}
use Rattle.gx_groups.specs.Slots.{Slots, is}
use Rattle.gx_groups.specs.Table.{Table, group_at, is_asking, is_holding, seat_of}

abbrev pub one : Bool → ℕ
one true = 1
one false = 0

abbrev pub is_idle : Standing → Bool
is_idle Idle = true
is_idle _ = false

-- how often a session stands in a list
abbrev pub times : SessionId → List SessionId → ℕ
times s [] = 0
times s (x ∷ xs) = one (is s x) + times s xs

-- a session stands in one list of its group, once, by what it does
pub record Does (s : SessionId) (standing : Standing) (slots : Slots) : Type 0 where
  pub holders : times s slots.holders ≡ one (is_holding standing)
  pub askers : times s slots.askers ≡ one (is_asking standing)
  pub idle : times s slots.idle ≡ one (is_idle standing)

-- the table has of a session, by its seat, that it does this
abbrev pub Tells : Table → SessionId → Standing → Seat → Type 0
Tells t s standing (Grouped place) = Does s standing (group_at t place)
Tells t s standing (Alone own) = own ≡ standing

abbrev pub IsTold : Table → (SessionId → Standing) → Type 0
IsTold t standing = (s : SessionId) (seat : Seat) → seat_of t s ≡ Some seat → Tells t s (standing s) seat

abbrev pub standing_at : List Standing → SessionId → Standing
standing_at standings s = slice_index_or standings s.0 Idle

-- for each session it is noted what it does
pub record AreNoted (groups : List Slots) (seats : List Seat) (standings : List Standing) : Type 0 where
  pub each : length standings ≡ length seats
  pub told : IsTold (record { groups = groups; seats = seats }) (standing_at standings)
