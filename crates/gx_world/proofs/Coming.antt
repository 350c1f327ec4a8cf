-- What comes to a node.
use Rattle.std.proofs.Common.{◌≡◌, ◌∙◌, Option, Some, None, Bool, true, refl, ap}
use Rattle.std.specs.Prelude.{unwrap_or}
use Rattle.gx_script.specs.declared.Script.{Script}
use Rattle.gx_store.specs.declared.event.Event.{Event}
use Rattle.gx_store.specs.declared.event.Event.TheVariants as event
use Rattle.gx_store.specs.declared.node.NodeEvent.{NodeEvent}
use Rattle.gx_store.specs.declared.node.NodeEvent.TheVariants as node
use Rattle.gx_rules.specs.Machine as machine
use Rattle.gx_rules.specs.Machine.{at_node, can, can_here, delivered, node_of}
use Rattle.gx_world.specs.Coming.{coming}
use Rattle.gx_world.specs.declared.network.Network.{Network}
use Rattle.gx_world.specs.Networks.{Stands}

-- the run lends what the machine has posted
pub comes : (script : Script) (w : machine.World) (network : Network) → Stands script w network → (e : Event) (here : NodeEvent) → at_node w e ≡ Some here → coming network.run.steps network.letters e ≡ Some here
comes script w network stands (event.Receive from to number) here there = ap (delivered from) (stands.letters.is from to number) ∙ there
comes script w network stands (event.Resume n g) here there = there
comes script w network stands (event.Start s) here there = there
comes script w network stands (event.End s) here there = there
comes script w network stands (event.Resend i g) here there = there
comes script w network stands event.Round here there = there
comes script w network stands (event.Restart n) here there = there

-- what an event is at its node; nothing else where that is nothing
abbrev pub here_in : machine.World → Event → NodeEvent
here_in w e = unwrap_or (at_node w e) node.Round

-- an event that may happen is something there
pub is-here : (script : Script) (w : machine.World) (e : Event) → can script w e ≡ true → at_node w e ≡ Some (here_in w e)
is-here script w e admitted = by (at_node w e) admitted
  where
    by : (o : Option NodeEvent) → can_here script w (node_of e) o ≡ true → o ≡ Some (unwrap_or o node.Round)
    by None h = absurd (cc)
    by (Some x) h = refl
