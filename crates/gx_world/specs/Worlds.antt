-- What a world is, to those who call it, and what a step of it is.
use Rattle.std.specs.Prelude.{◌≡◌, ◌<◌, ℕ, ◌++◌, ◌∷◌, [], Bool, true, false, List, length, map, slice_get, Some}
use Rattle.std.specs.declared.option.Option.{Option}
use Rattle.gx_ids.specs.declared.ids.Node.{Node}
use Rattle.gx_msg.specs.ItemBytes.{bytes_of_item}
use Rattle.gx_msg.specs.declared.item.JournalItem.{JournalItem}
use Rattle.gx_outside.specs.Shelves.{Shelf, IsLater}
use Rattle.gx_node.specs.Orders.{IsLaterBy}
use Rattle.gx_script.specs.declared.Script.{Script}
use Rattle.gx_store.specs.declared.event.Event.{Event}
use Rattle.gx_store.specs.declared.run.Run.{Run}
use Rattle.gx_store.specs.declared.run.Step.{Step}
use Rattle.gx_store.specs.Journals.{is_same_node}
use Rattle.gx_rules.specs.Machine as machine
use Rattle.gx_rules.specs.Machine.{at_node, happens, node_of}
use Rattle.gx_law_order.specs.Journals.{item_at, takes}
use Rattle.gx_law_runs.specs.Failures.{failures_in}
use Rattle.gx_law_runs.specs.Replays.{world_behind}

-- it is spent once memory has run out in a step
pub record WorldState : Type 0 where
  pub script : Script
  pub run : Run
  pub spent : Bool

-- what an event made of a node's journal: it holds the items that the event adds there; where an append failed at the
-- event's node, its count rose, and else it is as before
pub record HasTaken (script : Script) (w : machine.World) (event : Event) (fails : Bool) (node : Node) (before after : Shelf) : Type 0 where
  pub items : after.items ≡ before.items ++ map bytes_of_item (takes script w event fails node)
  pub caused : is_same_node (node_of event) node ≡ true → fails ≡ true → before.faults < after.faults
  pub calm : fails ≡ false → after.faults ≡ before.faults
  pub faults : is_same_node (node_of event) node ≡ false → after.faults ≡ before.faults

-- One node's journal alone may have changed: its count of failures hasn't fallen, and it has at most one item more.
pub record AreLater (node : Node) (before after : List Shelf) : Type 0 where
  pub count : length after ≡ length before
  pub own : (b a : Shelf) → slice_get before node.0 ≡ Some b → slice_get after node.0 ≡ Some a → IsLater b a
  pub others : (k : ℕ) (b a : Shelf) → (k ≡ node.0 → ⊥) → slice_get before k ≡ Some b → slice_get after k ≡ Some a → a ≡ b

-- the item that the event's node keeps for it where its append doesn't fail
abbrev pub kept_for : Script → machine.World → Event → Option JournalItem
kept_for script w event = item_at script w (node_of event) false (at_node w event)

-- The same, and where the node's journal has an item more it is this one.
pub record AreLaterBy (node : Node) (it : Option JournalItem) (before after : List Shelf) : Type 0 where
  pub count : length after ≡ length before
  pub own : (b a : Shelf) → slice_get before node.0 ≡ Some b → slice_get after node.0 ≡ Some a → IsLaterBy b a it
  pub others : (k : ℕ) (b a : Shelf) → (k ≡ node.0 → ⊥) → slice_get before k ≡ Some b → slice_get after k ≡ Some a → a ≡ b

-- one more step was done, with this event, by the rule of its node, for an append that fails or not; the journals took what it adds, and the step
-- has a JournalFailed mark of a node only where the count of that journal rose
pub record HasStepped (script : Script) (old new : List Step) (event : Event) (before after : List Shelf) : Type 0 where
  pub step : Step
  pub of : step.event ≡ event
  pub is : new ≡ old ++ step ∷ []
  pub fails : Bool
  pub by_rule : new ≡ (happens script (world_behind script old) event fails).steps
  pub count : length after ≡ length before
  pub journals : (node : Node) (b a : Shelf) → slice_get before node.0 ≡ Some b → slice_get after node.0 ≡ Some a → HasTaken script (world_behind script old) event fails node b a
  pub failed : (node : Node) (b a : Shelf) → slice_get before node.0 ≡ Some b → slice_get after node.0 ≡ Some a → 0 < failures_in node step.marks → b.faults < a.faults
