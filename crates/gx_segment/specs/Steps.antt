-- A segment against its rule, and what a step of it is.
use Rattle.std.specs.Prelude.{◌≡◌, ◌≤◌, ℕ, Bool, List, false}
use Rattle.gx_ids.specs.declared.ids.Cid.{Cid}
use Rattle.gx_ids.specs.declared.ids.Gxid.{Gxid}
use Rattle.gx_ids.specs.declared.ids.Node.{Node}
use Rattle.gx_outside.specs.Shelves.{Shelf}
use Rattle.gx_node.specs.Orders.{Took}
use Rattle.gx_msg.specs.declared.message.Message.{Message}
use Rattle.gx_store.specs.declared.node.NodeEvent.{NodeEvent}
use Rattle.gx_store.specs.declared.node.NodeEvent.TheVariants.{Deliver}
use Rattle.gx_store.specs.declared.mark.Mark.{Mark}
use Rattle.gx_rules.specs.AtSegment.{seg_rule}
use Rattle.gx_rules.specs.Segments.{Seg}
use Rattle.gx_slices.specs.Agrees.{IsHeld}
use Rattle.gx_slices.specs.declared.held.Held.{Held}
use Rattle.gx_segment.specs.Before.{Before}
use Rattle.gx_segment.specs.Reports.{report_in}
use Rattle.gx_segment.specs.declared.collecting.LastReport.{LastReport}
use Rattle.gx_segment.specs.declared.segment.Segment.{Segment}

-- the segment holds what the rule's data says, but for dead versions that are dropped
pub record IsSegment (segment : Segment) (s : Seg) : Type 0 where
  pub node : segment.node ≡ s.node
  pub held : IsHeld segment.script.value.tables segment.held s
  pub horizon : segment.horizon ≡ s.horizon
  pub report : segment.report ≡ report_in s
  pub sent : segment.sent ≡ s.sent
  pub clock : segment.clock ≡ s.clock

-- a reader that is nobody's transaction
abbrev pub nobody : Gxid
nobody = record { 0 = 0 }

abbrev pub no_command : Cid
no_command = record { 0 = 0 }

-- a message comes, with its number, its sender's clock, and its incarnation
abbrev pub delivered : Node → ℕ → ℕ → ℕ → Message → NodeEvent
delivered from number clock incarnation message = Deliver from (record { number = number; clock = clock; incarnation = incarnation; message = message })

-- The step is the rule's, for an append that fails or not: the data with the clock, the marks, which tell the message, and what
-- the journal took. The horizon doesn't fall.
pub record HasStepped (old new : Segment) (s : Seg) (event : NodeEvent) (before after : Shelf) (marks : List Mark) : Type 0 where
  pub fails : Bool
  pub is : IsSegment new (seg_rule old.script.value s event fails).seg
  pub script : new.script ≡ old.script
  pub rises : old.horizon.0 ≤ new.horizon.0
  pub usable : new.spent ≡ false
  pub told : marks ≡ (seg_rule old.script.value s event fails).marks
  pub took : Took before after fails (seg_rule old.script.value s event fails).item

-- the same of a segment's parts
pub record HasGone (was : Before) (event : NodeEvent) (now : Held) (low : Gxid) (last : LastReport) (count time : ℕ) (before after : Shelf) (marks : List Mark) : Type 0 where
  pub fails : Bool
  pub held : IsHeld was.script.tables now (seg_rule was.script was.seg event fails).seg
  pub horizon : low ≡ (seg_rule was.script was.seg event fails).seg.horizon
  pub report : last ≡ report_in (seg_rule was.script was.seg event fails).seg
  pub sent : count ≡ (seg_rule was.script was.seg event fails).seg.sent
  pub clock : time ≡ (seg_rule was.script was.seg event fails).seg.clock
  pub told : marks ≡ (seg_rule was.script was.seg event fails).marks
  pub took : Took before after fails (seg_rule was.script was.seg event fails).item
