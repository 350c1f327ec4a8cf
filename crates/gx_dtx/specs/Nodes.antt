-- Lists of nodes, and what is sent to each of one.
use Rattle.std.specs.Prelude.{Bool, List, [], ◌∷◌, ◌++◌, ◌==◌, nat_lt, not, map, filter, if◌then◌else◌}
use Rattle.std.specs.List.{list_any}
use Rattle.std.specs.List.Sorted.{IsStrictlySortedBy}
use Rattle.std.specs.Ordering.{nat_cmp}
use Rattle.gx_ids.specs.declared.ids.Node.{Node}
use Rattle.gx_msg.specs.declared.message.Message.{Message}
use Rattle.gx_msg.specs.declared.message.Out.{Out}

-- whether i is one of the nodes
abbrev pub has : Node → List Node → Bool
has i nodes = list_any (λ j. j.0 == i.0) nodes

-- the nodes but i
abbrev pub without : Node → List Node → List Node
without i nodes = filter (λ j. not (j.0 == i.0)) nodes

-- the nodes with i among them, which rise where they rose
abbrev pub with_node : Node → List Node → List Node
with_node i nodes = if has i nodes then nodes else filter (λ j. nat_lt j.0 i.0) nodes ++ i ∷ [] ++ filter (λ j. nat_lt i.0 j.0) nodes

-- each node is below those after it
abbrev pub AreRising : List Node → Type 0
AreRising nodes = IsStrictlySortedBy (λ i j. nat_cmp i.0 j.0) nodes

-- the message to each of the nodes, in their order
abbrev pub to_each : Message → List Node → List Out
to_each m nodes = map (λ i. record { node = i; message = m }) nodes
