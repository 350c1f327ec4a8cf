-- What comes to the coordinator by itself.
use Rattle.gx_store.specs.declared.node.NodeEvent.{NodeEvent}
use Rattle.gx_store.specs.declared.node.NodeEvent.TheVariants as event

-- an event that doesn't come in an envelope
abbrev pub IsOwn : NodeEvent → Type 0
IsOwn (event.Deliver from envelope) = ⊥
IsOwn _ = Unit {0}
