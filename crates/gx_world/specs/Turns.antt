-- What a node's next step may rely on.
use Rattle.std.specs.Prelude.{◌≡◌, ◌-◌, ◌++◌, ◌∷◌, [], Bool, false, List, Some, All, slice_get, slice_set}
use Rattle.gx_ids.specs.declared.ids.Node.{Node}
use Rattle.gx_outside.specs.Shelves.{Shelf}
use Rattle.gx_node.specs.Orders.{IsLaterBy}
use Rattle.gx_script.specs.declared.Script.{Script}
use Rattle.gx_store.specs.declared.event.Event.{Event}
use Rattle.gx_store.specs.declared.mark.Mark.{Mark}
use Rattle.gx_store.specs.declared.node.NodeEvent.{NodeEvent}
use Rattle.gx_store.specs.declared.run.Step.{Step}
use Rattle.gx_store.specs.Ordered.{AreNumbered, IsAtNode}
use Rattle.gx_rules.specs.AtSegment.{seg_rule}
use Rattle.gx_rules.specs.Machine as machine
use Rattle.gx_rules.specs.Machine.{does}
use Rattle.gx_rules.specs.Segments.{Seg}
use Rattle.gx_segment.specs.Steps.{HasStepped}
use Rattle.gx_segment.specs.declared.segment.Segment.{Segment}

-- the step's marks stand at its node, and its messages have the next numbers
pub record IsFit (script : Script) (steps : List Step) (node : Node) (marks : List Mark) : Type 0 where
  pub at : All (IsAtNode script node) marks
  pub numbers : AreNumbered node steps [] marks

-- whichever way the append goes
abbrev pub IsNext : Script → machine.World → Event → Node → NodeEvent → Type 0
IsNext script w event node here =
    (fails : Bool) (step : Step) → (does script w event node fails (Some here)).steps ≡ w.steps ++ step ∷ [] → IsFit script w.steps step.stamp.node step.marks

-- the segment of a number, from 1, has done it, the others are as they were, and the step tells it
pub record HasSteppedAt (at : Node) (event : Event) (old new : List Segment) (s : Seg) (here : NodeEvent) (before after : Shelf) (step : Step) : Type 0 where
  pub was : Segment
  pub there : slice_get old (at.0 - 1) ≡ Some was
  pub now : Segment
  pub all : new ≡ slice_set old (at.0 - 1) now
  pub stepped : HasStepped was now s here before after step.marks
  pub is : step ≡ record { stamp = record { clock = now.clock; node = at }; event = event; marks = step.marks }

-- the journal of the segment of a number, from 1, may have the item more that its rule keeps
pub record IsLaterAt (at : Node) (old : List Segment) (s : Seg) (here : NodeEvent) (before after : Shelf) : Type 0 where
  pub was : Segment
  pub there : slice_get old (at.0 - 1) ≡ Some was
  pub later : IsLaterBy before after (seg_rule was.script.value s here false).item
