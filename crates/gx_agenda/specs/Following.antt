-- What is awaited before and behind something that the coordinator does, as messages and as what they ask for.
use Rattle.std.specs.Prelude.{◌≡◌, true, if◌then◌else◌, ◌&&◌, Some, None, Option, option_map}
use Rattle.gx_ids.specs.declared.ids.Gxid.{Gxid}
use Rattle.gx_ids.specs.declared.ids.Node.{Node}
use Rattle.gx_msg.specs.declared.message.Message.{Message}
use Rattle.gx_store.specs.Journals.{is_same_node}
use Rattle.gx_store.specs.Schedule.{is_about, is_answer_to}
use Rattle.gx_agenda.specs.declared.asked.Asked.{Asked}
use Rattle.gx_agenda.specs.Awaited.{expected_at}
use Rattle.gx_agenda.specs.Expected.{expected_of}

-- how the awaited message of a segment and a transaction moves
abbrev pub Move : Type 0
Move = Node → Gxid → Option Message → Option Message

-- it is an order about the transaction, if there is one
abbrev pub IsOrderOf : Gxid → Option Message → Type 0
IsOrderOf g None = Unit {0}
IsOrderOf g (Some asked) = is_about g asked ≡ true

-- what is expected moves as the awaited message does
abbrev pub Follows : Move → Asked → Asked → Type 0
Follows move old new = (segment : Node) (g : Gxid) (was : Option Message) → expected_at old segment g ≡ option_map expected_of was
    → expected_at new segment g ≡ option_map expected_of (move segment g was)

-- the same of orders
abbrev pub FollowsOrders : Move → Asked → Asked → Type 0
FollowsOrders move old new = (segment : Node) (g : Gxid) (was : Option Message) → IsOrderOf g was
    → expected_at old segment g ≡ option_map expected_of was → expected_at new segment g ≡ option_map expected_of (move segment g was)

-- the awaited message behind one that came from a node
abbrev pub unless_told : Node → Message → Move
unless_told from told segment g was = if is_same_node from segment && is_answer_to was g (Some told) then None else was
