-- A network against the machine over every message ever sent.
use Rattle.std.specs.Prelude.{◌≡◌, ℕ, ◌+◌, ◌<◌, ◌^◌, Bool, false, List, length, slice_get, slice_set, Some, All}
use Rattle.gx_ids.specs.declared.ids.Node.{Node}
use Rattle.gx_outside.specs.Shelves.{Shelf}
use Rattle.gx_node.specs.Orders.{Took}
use Rattle.gx_script.specs.declared.Script.{Script}
use Rattle.gx_store.specs.Language.{IsScript}
use Rattle.gx_store.specs.declared.event.Event.{Event}
use Rattle.gx_store.specs.declared.node.NodeEvent.{NodeEvent}
use Rattle.gx_store.specs.declared.run.Step.{Step}
use Rattle.gx_rules.specs.Machine as machine
use Rattle.gx_rules.specs.Machine.{does, run_of}
use Rattle.gx_law_order.specs.Journals.{item_at}
use Rattle.gx_law_runs.specs.Reached.{IsReached}
use Rattle.gx_law_runs.specs.Replays.{world_behind}
use Rattle.gx_coord.specs.Steps.{IsCoord}
use Rattle.gx_segment.specs.declared.segment.Segment.{Segment}
use Rattle.gx_segment.specs.Steps.{IsSegment}
use Rattle.gx_world.specs.declared.letters.Letters.{Letters}
use Rattle.gx_world.specs.declared.letters.Place.{Place}
use Rattle.gx_world.specs.Links.{ArePosted, IsLong, link_in}
use Rattle.gx_world.specs.declared.network.Network.{Network}
use Rattle.gx_world.specs.declared.network.Nodes.{Nodes}
use Rattle.gx_world.specs.Worlds.{HasStepped}

-- the segment of a number, from 1, agrees with the machine's
pub record IsAt (script : Script) (w : machine.World) (number : ℕ) (segment : Segment) : Type 0 where
  pub is : IsSegment segment (w.segs number)
  pub of : segment.script.value ≡ script
  pub usable : segment.spent ≡ false

-- every message has its place in a step of the run
abbrev pub ArePlaced : Letters → List Step → Type 0
ArePlaced letters steps = (from to : Node) (k : ℕ) (place : Place) → slice_get (link_in letters from to) k ≡ Some place → place.step < length steps

-- the network is where the machine stands
pub record Stands (script : Script) (w : machine.World) (network : Network) : Type 0 where
  pub language : IsScript script
  pub of : network.script.value ≡ script
  pub coord : IsCoord network.coord w.coord
  pub coord_script : network.coord.script.value ≡ script
  pub coord_usable : network.coord.spent ≡ false
  pub count : length network.segments.items ≡ script.segments
  pub segments : (k : ℕ) (segment : Segment) → slice_get network.segments.items k ≡ Some segment → IsAt script w (k + 1) segment
  pub run : network.run ≡ run_of w
  pub long : IsLong script.segments network.letters
  pub letters : ArePosted network.letters network.run.steps w.sent
  pub placed : ArePlaced network.letters network.run.steps
  pub usable : network.spent ≡ false

-- it is where its own run leads the machine; of one that is spent only that its run is reached
pub record IsNetwork (network : Network) : Type 0 where
  pub language : IsScript network.script.value
  pub reached : IsReached network.script.value network.run.steps
  pub stands : network.spent ≡ false → Stands network.script.value (world_behind network.script.value network.run.steps) network

-- nodes of the script that can be used and stand where these steps lead the machine, with every message's place
pub record AreNodesBehind (script : Script) (steps : List Step) (nodes : Nodes) : Type 0 where
  pub of : nodes.script.value ≡ script
  pub coord : IsCoord nodes.coord (world_behind script steps).coord
  pub coord_script : nodes.coord.script.value ≡ script
  pub coord_usable : nodes.coord.spent ≡ false
  pub count : length nodes.segments.items ≡ script.segments
  pub segments : (k : ℕ) (segment : Segment) → slice_get nodes.segments.items k ≡ Some segment → IsAt script (world_behind script steps) (k + 1) segment
  pub long : IsLong script.segments nodes.letters
  pub letters : ArePosted nodes.letters steps (world_behind script steps).sent
  pub placed : ArePlaced nodes.letters steps

-- no number lacks room: clocks, the numbers of messages and of rounds, and the next transaction's
pub record HasRoom (network : Network) : Type 0 where
  pub clock : network.coord.clock < 2 ^ 62
  pub sent : All (λ n. n < 2 ^ 62) network.coord.sent.items
  pub next : network.coord.dtx.next.0 < 2 ^ 62
  pub rounds : network.coord.detector.begun < 2 ^ 62
  pub segments : All (λ s. (s.clock < 2 ^ 62) × (s.sent < 2 ^ 62)) network.segments.items

-- what an event at a node made of the machine, and of that node's journal
pub record HasTurned (script : Script) (w : machine.World) (event : Event) (at : Node) (here : NodeEvent) (new : Network) (before after : Shelf) : Type 0 where
  pub fails : Bool
  pub is : Stands script (does script w event at fails (Some here)) new
  pub took : Took before after fails (item_at script w at fails (Some here))

-- what an event at a node made of the machine and of all journals
pub record HasMoved (script : Script) (w : machine.World) (event : Event) (at : Node) (here : NodeEvent) (new : Network) (before after : List Shelf) : Type 0 where
  pub fails : Bool
  pub is : Stands script (does script w event at fails (Some here)) new
  pub was : Shelf
  pub there : slice_get before at.0 ≡ Some was
  pub now : Shelf
  pub journals : after ≡ slice_set before at.0 now
  pub took : Took was now fails (item_at script w at fails (Some here))

-- one event more was done
pub record HasDone (old new : Network) (event : Event) (before after : List Shelf) : Type 0 where
  pub is : IsNetwork new
  pub unspent : new.spent ≡ false
  pub stepped : HasStepped old.script.value old.run.steps new.run.steps event before after
