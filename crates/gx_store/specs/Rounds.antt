-- The detector's rounds: who may still be cancelled, what a round's graphs are, and what it decides.
use Rattle.std.specs.List.{list_all}
use Rattle.std.specs.declared.option.Option.{Option}
use Rattle.std.specs.Prelude.{if◌then◌else◌, None, ◌≡◌, ℕ, ◌+◌, ◌≤◌, ◌<◌, ◌==◌, Bool, true, false, not, ◌&&◌, ◌||◌, List, [], ◌∷◌, ◌++◌, length, map, slice_get, Some, Contains, All}
use Rattle.gx_ids.specs.declared.ids.Gxid.{Gxid}
use Rattle.gx_ids.specs.declared.ids.Node.{Node}
use Rattle.gx_msg.specs.declared.message.Message.TheVariants as message
use Rattle.gx_script.specs.declared.Script.{Script}
use Rattle.gx_waits.specs.Claim.{AreEdges, IsEdge}
use Rattle.gx_waits.specs.Closed.{IsClosed}
use Rattle.gx_waits.specs.LocalGraph.{edges_of}
use Rattle.gx_waits.specs.declared.graph.LocalGraph.{LocalGraph}
use Rattle.gx_waits.specs.declared.placed_edge.PlacedEdge.{PlacedEdge}
use Rattle.gx_waits.specs.Victims.{IsVerdict}
use Rattle.gx_waits.specs.declared.verdict.Verdict.{Verdict}
use Rattle.gx_store.specs.declared.event.Event.{Event}
use Rattle.gx_store.specs.declared.event.Event.TheVariants as event
use Rattle.gx_store.specs.declared.mark.Mark.{Mark}
use Rattle.gx_store.specs.declared.run.Step.{Step}
use Rattle.gx_store.specs.declared.mark.Mark.TheVariants as mark
use Rattle.gx_store.specs.Marks.{is_ended, is_same_gxid}
pub use Rattle.gx_store.specs.Marks.{is_committing}
use Rattle.gx_store.specs.Messages.{Receives, ReceivesAt}
use Rattle.gx_store.specs.Points.{Point, before, marks_in}
use Rattle.gx_store.specs.Refusals.{the_coordinator}
use Rattle.gx_store.specs.Schedule.{is_graph_awaited, is_graph_received, is_round_running, round_count, segments_of}
use Rattle.gx_store.specs.Waits.{holds_at, waits_at}

abbrev pub is_started : List Mark → Gxid → Bool
is_started [] g = false
is_started (mark.Start h session ∷ ms) g = is_same_gxid h g || is_started ms g
is_started (_ ∷ ms) g = is_started ms g

-- the transaction has begun and may still be cancelled
abbrev pub is_active : List Mark → Gxid → Bool
is_active marks g = is_started marks g && (not (is_ended marks g) && not (is_committing marks g))

-- the edge stands at its node: a wait there meets who is in its way
abbrev pub StandsAt : List Mark → PlacedEdge → Type 0
StandsAt marks placed = IsEdge (waits_at marks placed.node) (holds_at marks placed.node) placed.edge

-- a closed set of waits of transactions that may still be cancelled: none of them goes on unless one of them aborts
pub record IsBlocked (marks : List Mark) (edges : List PlacedEdge) : Type 0 where
  pub closed : IsClosed edges
  pub standing : All (StandsAt marks) edges
  pub active : All (λ placed. (is_active marks placed.edge.waiter ≡ true) × (is_active marks placed.edge.holder ≡ true)) edges

-- a graph has just the edges of the waits and holds that stand at its node, each once
pub record IsGraphAt (marks : List Mark) (node : Node) (graph : LocalGraph) : Type 0 where
  pub place : graph.node ≡ node
  pub edges : AreEdges (waits_at marks node) (holds_at marks node) graph.edges

-- ASKING FOR GRAPHS
-- whom these marks ask for a graph, and of which round
abbrev pub collects_in : List Mark → List (Node × ℕ)
collects_in [] = []
collects_in (mark.Sent to number (message.Collect round) ∷ ms) = (to, round) ∷ collects_in ms
collects_in (_ ∷ ms) = collects_in ms

-- A round begins where the detector is on and none runs; it has the next number, and each segment is asked for its graph. One is
-- asked again only while its graph is awaited. No other step asks.
abbrev pub Asks : Script → List Step → Event → List Mark → Type 0
Asks script steps event.Round marks =
    (script.detector ≡ true) × (is_round_running steps ≡ false) × (collects_in marks ≡ map (λ segment. (segment, round_count steps + 1)) (segments_of script))
Asks script steps (event.Resend segment None) marks = (is_graph_awaited steps segment ≡ true) × (collects_in marks ≡ (segment, round_count steps) ∷ [])
Asks script steps _ marks = collects_in marks ≡ []

-- REPORTS
-- the last round for which the node has reported, from the one given
abbrev pub last_round : Node → ℕ → List Mark → ℕ
last_round node round [] = round
last_round node round (mark.Report n r graph ∷ ms) = last_round node (if n.0 == node.0 then r else round) ms
last_round node round (_ ∷ ms) = last_round node round ms

-- a report is made in the step that asks the segment for it, once a round, and tells what stands there then
pub record IsReport (point : Point) (node : Node) (round : ℕ) (graph : LocalGraph) : Type 0 where
  pub asked : Receives point.steps point.event the_coordinator node (message.Collect round)
  pub newest : last_round node 0 (before point) < round
  pub tells : IsGraphAt (before point) node graph

abbrev pub AreReports : List Step → Event → List Mark → List Mark → Type 0
AreReports steps event earlier [] = Unit {0}
AreReports steps event earlier (mark.Report node round graph ∷ ms) =
    IsReport (record { steps = steps; event = event; earlier = earlier; later = ms }) node round graph × AreReports steps event (earlier ++ mark.Report node round graph ∷ []) ms
AreReports steps event earlier (m ∷ ms) = AreReports steps event (earlier ++ m ∷ []) ms

-- the graph that the node noted last for a round, or the one given
abbrev pub last_report : Node → ℕ → Option LocalGraph → List Mark → Option LocalGraph
last_report node round graph [] = graph
last_report node round graph (mark.Report n r noted ∷ ms) = last_report node round (if (n.0 == node.0) && (r == round) then Some noted else graph) ms
last_report node round graph (_ ∷ ms) = last_report node round graph ms

-- a segment sends the graph that it noted last
abbrev pub SendNoted : Node → List Mark → List Mark → Type 0
SendNoted node marks [] = Unit {0}
SendNoted node marks (mark.Sent to number (message.Graph round graph) ∷ ms) =
    (last_report node round None marks ≡ Some graph) × SendNoted node (marks ++ mark.Sent to number (message.Graph round graph) ∷ []) ms
SendNoted node marks (m ∷ ms) = SendNoted node (marks ++ m ∷ []) ms

-- the graph is the first of its round that was received from the segment
pub record IsReportOf (point : Point) (round : ℕ) (segment : Node) (graph : LocalGraph) : Type 0 where
  pub at : ℕ
  pub received : ReceivesAt point at segment the_coordinator (message.Graph round graph)
  pub first : (k : ℕ) (other : LocalGraph) → ReceivesAt point k segment the_coordinator (message.Graph round other) → at ≤ k

-- the reports of a round: each segment's first
pub record AreReportsOf (script : Script) (point : Point) (round : ℕ) (reports : List LocalGraph) : Type 0 where
  pub all : length reports ≡ script.segments
  pub each : (i : ℕ) (graph : LocalGraph) → slice_get reports i ≡ Some graph → IsReportOf point round (record { 0 = i + 1 }) graph

-- THE END OF A ROUND
-- It is the first mark of its step: the coordinator's own graph of this moment, every segment's report, and what follows from both.
pub record IsRecheck (script : Script) (point : Point) (round : ℕ) (own : LocalGraph) (verdict : Verdict) : Type 0 where
  pub first : point.earlier ≡ []
  pub here : IsGraphAt (before point) the_coordinator own
  pub reports : List LocalGraph
  pub are_reports : AreReportsOf script point round reports
  pub active : List Gxid
  pub are_active : (g : Gxid) → Contains active g → is_active (before point) g ≡ true
  pub all_active : (g : Gxid) → is_active (before point) g ≡ true → Contains active g
  pub follows : IsVerdict (edges_of (own ∷ reports)) active verdict

abbrev pub AreRechecksIn : Script → List Step → Event → List Mark → List Mark → Type 0
AreRechecksIn script steps event earlier [] = Unit {0}
AreRechecksIn script steps event earlier (mark.Recheck round own verdict ∷ ms) =
    IsRecheck script (record { steps = steps; event = event; earlier = earlier; later = ms }) round own verdict × AreRechecksIn script steps event (earlier ++ mark.Recheck round own verdict ∷ []) ms
AreRechecksIn script steps event earlier (m ∷ ms) = AreRechecksIn script steps event (earlier ++ m ∷ []) ms

-- the rounds that marks end
abbrev pub rechecks_in : List Mark → List ℕ
rechecks_in [] = []
rechecks_in (mark.Recheck round own verdict ∷ ms) = round ∷ rechecks_in ms
rechecks_in (_ ∷ ms) = rechecks_in ms

-- a round runs, and with this step the graph of every segment for it has been received
abbrev pub is_complete_behind : Script → List Step → Step → Bool
is_complete_behind script steps step =
    is_round_running steps && list_all (λ segment. is_graph_received [] segment (round_count steps) (steps ++ step ∷ [])) (segments_of script)

-- the round that runs ends in the step that receives the last of its graphs, once; no other step ends one
abbrev pub Ends : Script → List Step → Step → Type 0
Ends script steps step = rechecks_in step.marks ≡ (if is_complete_behind script steps step then round_count steps ∷ [] else [])

-- the rounds of a run, step by step: who is asked, what is reported and sent of it, and what each round decides, once
abbrev pub AreRounds : Script → List Step → List Step → Type 0
AreRounds script steps [] = Unit {0}
AreRounds script steps (s ∷ ss) =
    Asks script steps s.event s.marks × AreReports steps s.event [] s.marks × SendNoted s.stamp.node (marks_in steps) s.marks
    × AreRechecksIn script steps s.event [] s.marks × Ends script steps s × AreRounds script (steps ++ s ∷ []) ss
