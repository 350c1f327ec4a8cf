-- Groups as their heads name them, and as they stand in the script.
use Rattle.std.specs.Prelude.{ℕ, ◌+◌, ◌==◌, nat_eq, Bool, false, if◌then◌else◌, ◌||◌, List, [], ◌∷◌, ◌++◌, Option, Some, None, Result, Ok, Err, is_some, map}
use Rattle.std.specs.Cmp.Lexicographic.{pointwise}
use Rattle.gx_ids.specs.declared.ids.SessionId.{SessionId}
use Rattle.gx_script.specs.declared.group.SlotGroup.{SlotGroup}
use Rattle.gx_sql.specs.declared.groups.GroupHead.{GroupHead}
use Rattle.gx_sql.specs.declared.refusal.LineFault.{LineFault}
use Rattle.gx_sql.specs.declared.refusal.LineFault.TheVariants as fault

-- there is a group of this name
abbrev pub is_group : List ℕ → List GroupHead → Bool
is_group name [] = false
is_group name (g ∷ gs) = pointwise nat_eq g.name name || is_group name gs

-- SESSIONS IN GROUPS
-- the place of the group in which a session stands
abbrev pub place_among : List ℕ → List (List ℕ × ℕ) → Option ℕ
place_among name [] = None
place_among name (m ∷ ms) = if pointwise nat_eq name m.0 then Some m.1 else place_among name ms

abbrev pub or_standing : List ℕ → ℕ → List (List ℕ × ℕ) → Option ℕ → Result (List (List ℕ × ℕ)) LineFault
or_standing name place members None = Ok (members ++ (name, place) ∷ [])
or_standing name place members (Some at) = Err fault.Syntax

-- a session more in the group at a place; one that stands in a group already is wrong
abbrev pub with_member : ℕ → List ℕ → List (List ℕ × ℕ) → Result (List (List ℕ × ℕ)) LineFault
with_member place name members = or_standing name place members (place_among name members)

-- these sessions more, one behind the other
abbrev pub with_members : ℕ → List (List ℕ) → Result (List (List ℕ × ℕ)) LineFault → Result (List (List ℕ × ℕ)) LineFault
with_members place names (Err f) = Err f
with_members place [] (Ok members) = Ok members
with_members place (name ∷ names) (Ok members) = with_members place names (with_member place name members)

-- how many of these stand before the first that is wrong
abbrev pub before_standing : ℕ → List (List ℕ × ℕ) → List (List ℕ) → ℕ
before_standing place members [] = 0
before_standing place members (name ∷ names) = if is_some (place_among name members) then 0 else before_standing place (members ++ (name, place) ∷ []) names + 1

-- IN THE SCRIPT
abbrev pub is_at : ℕ → Option ℕ → Bool
is_at place None = false
is_at place (Some at) = at == place

-- of the sessions of these names, which are numbered from a number on, those that stand in the group at a place; who has no line isn't among them
abbrev pub sessions_at : List (List ℕ × ℕ) → ℕ → ℕ → List (List ℕ) → List SessionId
sessions_at members place number [] = []
sessions_at members place number (name ∷ names) =
    if is_at place (place_among name members) then record { 0 = number } ∷ sessions_at members place (number + 1) names else sessions_at members place (number + 1) names

-- the groups from a place on
abbrev pub groups_from : List (List ℕ × ℕ) → List (List ℕ) → ℕ → List GroupHead → List SlotGroup
groups_from members names place [] = []
groups_from members names place (g ∷ gs) = record { name = g.name; limit = g.limit; sessions = sessions_at members place 0 names } ∷ groups_from members names (place + 1) gs

-- the same, where the places of their groups are looked up once for each session
abbrev pub places_among : List (List ℕ × ℕ) → List (List ℕ) → List (Option ℕ)
places_among members names = map (λ name. place_among name members) names

abbrev pub sessions_by : ℕ → ℕ → List (Option ℕ) → List SessionId
sessions_by place number [] = []
sessions_by place number (at ∷ places) = if is_at place at then record { 0 = number } ∷ sessions_by place (number + 1) places else sessions_by place (number + 1) places

abbrev pub groups_by : List (Option ℕ) → ℕ → List GroupHead → List SlotGroup
groups_by places place [] = []
groups_by places place (g ∷ gs) = record { name = g.name; limit = g.limit; sessions = sessions_by place 0 places } ∷ groups_by places (place + 1) gs
