-- The machine that both rules make together over every message ever sent: any of them may come again, in any order, any
-- number of times, or never.
use Rattle.std.specs.Prelude.{ℕ, ◌==◌, Bool, true, false, if◌then◌else◌, ◌&&◌, List, [], ◌∷◌, ◌++◌, Some, None}
use Rattle.std.specs.declared.option.Option.{Option}
use Rattle.gx_ids.specs.declared.ids.Gxid.{Gxid}
use Rattle.gx_ids.specs.declared.ids.Node.{Node}
use Rattle.gx_msg.specs.declared.item.JournalItem.{JournalItem}
use Rattle.gx_msg.specs.declared.message.Envelope.{Envelope}
use Rattle.gx_script.specs.declared.Script.{Script}
use Rattle.gx_store.specs.declared.event.Event.{Event}
use Rattle.gx_store.specs.declared.event.Event.TheVariants as event
use Rattle.gx_store.specs.declared.mark.Mark.{Mark}
use Rattle.gx_store.specs.declared.mark.Mark.TheVariants.{Sent}
use Rattle.gx_store.specs.declared.node.NodeEvent.{NodeEvent}
use Rattle.gx_store.specs.declared.node.NodeEvent.TheVariants as node
use Rattle.gx_store.specs.declared.run.Run.{Run}
use Rattle.gx_store.specs.declared.run.Step.{Step}
use Rattle.gx_store.specs.Journals.{is_same_node}
use Rattle.gx_store.specs.Refusals.{the_coordinator}
use Rattle.gx_locks.specs.Locks.{may_take}
use Rattle.gx_rules.specs.AtCoordinator.{cancel_turn, coord_can, coord_rule, is_segment}
use Rattle.gx_rules.specs.AtSegment.{seg_rule}
use Rattle.gx_rules.specs.Coordinators.{Coord, CoordTurn, new_coordinator}
use Rattle.gx_rules.specs.Maps.{with_at}
use Rattle.gx_rules.specs.Segments.{Seg, SegTurn, new_segment}

-- a message that was sent, on its link
pub record Letter : Type 0 where
  pub from : Node
  pub to : Node
  pub envelope : Envelope

-- All nodes, the steps so far, and every message ever sent, the last first.
pub record World : Type 0 where
  pub coord : Coord
  pub segs : ℕ → Seg
  pub steps : List Step
  pub sent : List Letter

abbrev pub new_world : World
new_world = record { coord = new_coordinator; segs = λ i. new_segment (record { 0 = i }); steps = []; sent = [] }

-- MESSAGES
-- What the marks of a node's step have sent, on top of what was sent before. No segment has restarted, so all are in their first
-- incarnation.
abbrev pub posted : Node → ℕ → List Mark → List Letter → List Letter
posted from clock [] sent = sent
posted from clock (Sent to number message ∷ ms) sent =
    posted from clock ms (record { from = from; to = to; envelope = record { number = number; clock = clock; incarnation = 1; message = message } } ∷ sent)
posted from clock (_ ∷ ms) sent = posted from clock ms sent

abbrev pub is_at : Node → Node → ℕ → Letter → Bool
is_at from to number letter = is_same_node letter.from from && (is_same_node letter.to to && (letter.envelope.number == number))

-- the message of this number on a link
abbrev pub found : Node → Node → ℕ → List Letter → Option Envelope
found from to number [] = None
found from to number (letter ∷ letters) = if is_at from to number letter then Some letter.envelope else found from to number letters

-- EVENTS
-- the node of an event
abbrev pub node_of : Event → Node
node_of (event.Receive from to number) = to
node_of (event.Resume n g) = n
node_of (event.Start session) = the_coordinator
node_of (event.End session) = the_coordinator
node_of (event.Resend segment g) = the_coordinator
node_of event.Round = the_coordinator
node_of (event.Restart n) = n

-- what happens at that node; a delivery names a message that was sent, and no node has a rule for restarts yet
abbrev pub delivered : Node → Option Envelope → Option NodeEvent
delivered from None = None
delivered from (Some envelope) = Some (node.Deliver from envelope)

abbrev pub at_node : World → Event → Option NodeEvent
at_node w (event.Receive from to number) = delivered from (found from to number w.sent)
at_node w (event.Resume n g) = Some (node.Resume g)
at_node w (event.Start s) = Some (node.Start s)
at_node w (event.End s) = Some (node.End s)
at_node w (event.Resend i g) = Some (node.Resend i g)
at_node w event.Round = Some node.Round
at_node w (event.Restart n) = None

-- A segment takes deliveries, and, where it is one of the script's, resumes whoever has a wait there whose way is clear. What the
-- coordinator admits, it says itself.
abbrev pub seg_can : Script → Seg → NodeEvent → Bool
seg_can script s (node.Deliver from envelope) = true
seg_can script s (node.Resume g) = is_segment script s.node && may_take s.locks g
seg_can script s _ = false

abbrev pub can_here : Script → World → Node → Option NodeEvent → Bool
can_here script w at None = false
can_here script w at (Some e) = if is_same_node at the_coordinator then coord_can script w.coord e else seg_can script (w.segs at.0) e

-- what is admitted
abbrev pub can : Script → World → Event → Bool
can script w e = can_here script w (node_of e) (at_node w e)

-- STEPS
abbrev pub noted : World → Node → ℕ → Event → List Mark → World
noted w at clock e marks =
    record w {
      steps = w.steps ++ record { stamp = record { clock = clock; node = at }; event = e; marks = marks } ∷ [];
      sent = posted at clock marks w.sent;
    }

abbrev pub coord_did : World → Event → CoordTurn → World
coord_did w e turn = record (noted w the_coordinator turn.coord.clock e turn.marks) { coord = turn.coord }

-- A victim's turn stands in the coordinator's last step, behind the turns that have made it.
abbrev pub with_more : List Step → List Mark → List Step
with_more [] marks = []
with_more (s ∷ []) marks = record s { marks = s.marks ++ marks } ∷ []
with_more (s ∷ t ∷ ss) marks = s ∷ with_more (t ∷ ss) marks

abbrev pub coord_more : World → CoordTurn → World
coord_more w turn =
    record w { coord = turn.coord; steps = with_more w.steps turn.marks; sent = posted the_coordinator turn.coord.clock turn.marks w.sent }

abbrev pub and_cancelled : World → Gxid → World
and_cancelled w g = coord_more w (cancel_turn w.coord g)

abbrev pub seg_did : World → Node → Event → SegTurn → World
seg_did w i e turn = record (noted w i turn.seg.clock e turn.marks) { segs = with_at w.segs i.0 turn.seg }

-- by what the coordinator does in one event: its whole rule, or the event by itself
abbrev pub does_by : (Coord → NodeEvent → Bool → CoordTurn) → Script → World → Event → Node → Bool → Option NodeEvent → World
does_by rule script w e at fails None = w
does_by rule script w e at fails (Some here) =
    if is_same_node at the_coordinator then coord_did w e (rule w.coord here fails) else seg_did w at e (seg_rule script (w.segs at.0) here fails)

abbrev pub does : Script → World → Event → Node → Bool → Option NodeEvent → World
does script = does_by (coord_rule script) script

-- One event; what isn't admitted doesn't happen. `fails` says whether the node's journal fails to take an item.
abbrev pub happens : Script → World → Event → Bool → World
happens script w e fails = if can script w e then does script w e (node_of e) fails (at_node w e) else w

-- a list of events, each with the choice of its append
abbrev pub after : Script → World → List (Event × Bool) → World
after script w [] = w
after script w (e ∷ es) = after script (happens script w e.0 e.1) es

abbrev pub world_of : Script → List (Event × Bool) → World
world_of script events = after script new_world events

abbrev pub run_of : World → Run
run_of w = record { steps = w.steps }

-- the items that a node's journal takes, from its turns
abbrev pub kept_item : Bool → Option JournalItem → List JournalItem
kept_item true it = []
kept_item false None = []
kept_item false (Some it) = it ∷ []
