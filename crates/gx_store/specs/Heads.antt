-- What the heads of resource groups and of segment restarts keep.
use Rattle.std.specs.Prelude.{ℕ, ◌<◌, ◌≤◌, List, length, map, All}
use Rattle.std.specs.List.{flat_map}
use Rattle.gx_ids.specs.declared.ids.SessionId.{SessionId}
use Rattle.gx_script.specs.declared.group.SlotGroup.{SlotGroup}
use Rattle.gx_meaning.specs.Statements.{AreDistinct}
use Rattle.gx_store.specs.Limits.{IsWord}

abbrev pub group_name : SlotGroup → List ℕ
group_name group = group.name

abbrev pub group_sessions : SlotGroup → List SessionId
group_sessions group = group.sessions

-- a group with a name of the language, of some of so many sessions; its limit is a number of 64 bits
pub record IsGroup (sessions : ℕ) (group : SlotGroup) : Type 0 where
  pub name : length group.name ≤ 63
  pub word : IsWord group.name
  pub some_slots : 1 ≤ group.limit
  pub fits : group.limit ≤ 18446744073709551615
  pub members : All (λ (session : SessionId). session.0 < sessions) group.sessions

-- a session stands at most once in at most one group
pub record AreGroups (sessions : ℕ) (groups : List SlotGroup) : Type 0 where
  pub each : All (IsGroup sessions) groups
  pub names : AreDistinct (map group_name groups)
  pub few : length groups ≤ 64
  pub once : AreDistinct (flat_map group_sessions groups)
