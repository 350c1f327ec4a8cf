-- What the nodes hold of rounds is what the steps tell.
use Rattle.std.specs.Option.{option_or}
use Rattle.std.specs.Prelude.{◌≡◌, ◌≤◌, ℕ, ◌==◌, if◌then◌else◌, List, [], ◌∷◌, ◌++◌, map, Option, None, Some}
use Rattle.gx_ids.specs.declared.ids.Node.{Node}
use Rattle.gx_msg.specs.declared.message.Message.{Message}
use Rattle.gx_msg.specs.declared.message.Message.TheVariants as message
use Rattle.gx_script.specs.declared.Script.{Script}
use Rattle.gx_store.specs.declared.event.Event.{Event}
use Rattle.gx_store.specs.declared.event.Event.TheVariants as event
use Rattle.gx_store.specs.declared.mark.Mark.{Mark}
use Rattle.gx_store.specs.declared.run.Step.{Step}
use Rattle.gx_store.specs.Journals.{is_same_node}
use Rattle.gx_store.specs.Ordered.{IsSegment}
use Rattle.gx_store.specs.Points.{marks_in}
use Rattle.gx_store.specs.Refusals.{the_coordinator}
use Rattle.gx_store.specs.Rounds.{last_report, last_round}
use Rattle.gx_store.specs.Schedule.{is_graph_awaited, is_round_running, round_count, segments_of, sent_message}
use Rattle.gx_waits.specs.declared.graph.LocalGraph.{LocalGraph}
use Rattle.gx_rules.specs.Coordinators.{Coord}
use Rattle.gx_rules.specs.Machine.{World}
use Rattle.gx_rules.specs.Rounds.{awaits_graph}
use Rattle.gx_rules.specs.Segments.{Seg}

-- THE FIRST GRAPH OF A SEGMENT
-- the graph that a message brings for the round
abbrev pub graph_in : ℕ → Option Message → Option LocalGraph
graph_in round (Some (message.Graph r graph)) = if r == round then Some graph else None
graph_in round _ = None

-- the graph that an event receives from the segment for the round
abbrev pub graph_by : List Step → Node → ℕ → Event → Option LocalGraph
graph_by steps segment round (event.Receive from to number) = if is_same_node from segment then graph_in round (sent_message from to number steps) else None
graph_by steps segment round _ = None

-- the first graph that was received from the segment for the round
abbrev pub first_graph : List Step → Node → ℕ → List Step → Option LocalGraph
first_graph before segment round [] = None
first_graph before segment round (s ∷ ss) = option_or (graph_by before segment round s.event) (first_graph (before ++ s ∷ []) segment round ss)

-- while a round runs, a place for each segment, with its first graph
abbrev pub reports_by : Script → List Step → Option (List (Option LocalGraph))
reports_by script steps =
    if is_round_running steps then Some (map (λ segment. first_graph [] segment (round_count steps) steps) (segments_of script)) else None

-- AT EACH NODE
pub record IsHeldHere (script : Script) (steps : List Step) (c : Coord) : Type 0 where
  pub rounds : c.rounds ≡ round_count steps
  pub reports : c.reports ≡ reports_by script steps
  pub awaited : (i : Node) → IsSegment script i → awaits_graph c i ≡ is_graph_awaited steps i
  pub own : c.locks.node ≡ the_coordinator

-- the last round for which the segment has reported, and what it has reported then
pub record IsHeldAt (marks : List Mark) (node : Node) (s : Seg) : Type 0 where
  pub round : s.round ≡ last_round node 0 marks
  pub graph : s.graph ≡ last_report node s.round None marks
  pub own : s.locks.node ≡ node

pub record AreRoundsHeld (script : Script) (w : World) : Type 0 where
  pub coordinator : IsHeldHere script w.steps w.coord
  pub segments : (i : ℕ) → 1 ≤ i → IsHeldAt (marks_in w.steps) (record { 0 = i }) (w.segs i)
