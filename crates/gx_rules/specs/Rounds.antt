-- The detector's rounds at the coordinator: how one begins, which graphs it takes, and what it comes to.
use Rattle.std.specs.Prelude.{ℕ, ◌+◌, ◌==◌, Bool, true, false, if◌then◌else◌, ◌&&◌, is_none, List, [], ◌∷◌, filter, map, replicate, Some, None}
use Rattle.std.specs.declared.option.Option.{Option}
use Rattle.gx_ids.specs.declared.ids.Gxid.{Gxid}
use Rattle.gx_ids.specs.declared.ids.Node.{Node}
use Rattle.gx_dtx.specs.Table.{Table}
use Rattle.gx_dtx.specs.declared.txn.Txn.{Txn}
use Rattle.gx_dtx.specs.declared.phase.Phase.{Phase}
use Rattle.gx_dtx.specs.declared.phase.Phase.TheVariants.{Active}
use Rattle.gx_detect.specs.Reports.{noted}
use Rattle.gx_detect.specs.Rounds.{are_all, collects, graphs_in, lacks}
use Rattle.gx_detect.specs.Verdicts.{verdict_of}
use Rattle.gx_locks.specs.Graphs.{graph_at}
use Rattle.gx_msg.specs.declared.message.Message.{Message}
use Rattle.gx_msg.specs.declared.message.Message.TheVariants as message
use Rattle.gx_script.specs.declared.Script.{Script}
use Rattle.gx_store.specs.declared.mark.Mark.TheVariants as mark
use Rattle.gx_store.specs.declared.node.NodeEvent.{NodeEvent}
use Rattle.gx_store.specs.declared.node.NodeEvent.TheVariants as node
use Rattle.gx_waits.specs.LocalGraph.{edges_of}
use Rattle.gx_waits.specs.declared.graph.LocalGraph.{LocalGraph}
use Rattle.gx_waits.specs.declared.verdict.Verdict.{Verdict}
use Rattle.gx_waits.specs.declared.verdict.Verdict.TheVariants.{Victims}
use Rattle.gx_rules.specs.Coordinators.{Coord, CoordTurn, rests}

-- THE START
-- one round runs at a time, where the script's detector is on
abbrev pub can_begin : Script → Coord → Bool
can_begin script c = script.detector && is_none c.reports

-- the next round: nobody has reported in it, and every segment is asked for its graph
abbrev pub begins_round : Script → Coord → CoordTurn
begins_round script c =
    record {
      coord = record c { rounds = c.rounds + 1; reports = Some (replicate script.segments None) };
      marks = [];
      outs = collects script.segments (c.rounds + 1);
      item = None;
    }

-- REPORTS
-- a round runs, and the segment's graph for it hasn't come
abbrev pub awaits_graph : Coord → Node → Bool
awaits_graph c i = lacks c.reports i

-- the graph is of the segment that sends it, for the round that runs, and the first from there
abbrev pub is_report : Coord → Node → ℕ → LocalGraph → Bool
is_report c from round graph = (graph.node.0 == from.0) && ((round == c.rounds) && awaits_graph c from)

abbrev pub noted_in : Option (List (Option LocalGraph)) → LocalGraph → Option (List (Option LocalGraph))
noted_in None graph = None
noted_in (Some reports) graph = Some (noted reports graph)

abbrev pub with_report : Coord → LocalGraph → Coord
with_report c graph = record c { reports = noted_in c.reports graph }

-- THE RECHECK
-- who may still be cancelled
abbrev pub is_active : Phase → Bool
is_active Active = true
is_active _ = false

abbrev pub active_in : Table → List Gxid
active_in d = map (λ e. e.0) (filter (λ e. is_active e.1.phase) d.txns)

abbrev pub is_live : Option Txn → Bool
is_live None = false
is_live (Some t) = is_active t.phase

-- the coordinator's own graph at this moment, and the verdict over it and all reports
abbrev pub verdict_at : Coord → Verdict
verdict_at c = verdict_of (edges_of (graph_at c.locks ∷ graphs_in c.reports)) (active_in c.table)

-- the round ends with its verdict
abbrev pub rechecks : Coord → CoordTurn
rechecks c =
    record {
      coord = record c { reports = None };
      marks = mark.Recheck c.rounds (graph_at c.locks) (verdict_at c) ∷ [];
      outs = [];
      item = None;
    }

-- GRAPHS
-- the last report brings the recheck
abbrev pub once_all : Coord → CoordTurn
once_all c = if are_all c.reports then rechecks c else rests c

abbrev pub on_graph : Coord → Node → ℕ → LocalGraph → CoordTurn
on_graph c from round graph = if is_report c from round graph then once_all (with_report c graph) else rests c

-- VICTIMS
abbrev pub victims_in : Verdict → List Gxid
victims_in (Victims victims) = victims
victims_in _ = []

abbrev pub victims_once_all : Coord → List Gxid
victims_once_all c = if are_all c.reports then victims_in (verdict_at c) else []

abbrev pub victims_on_graph : Coord → Node → ℕ → LocalGraph → List Gxid
victims_on_graph c from round graph = if is_report c from round graph then victims_once_all (with_report c graph) else []

abbrev pub victims_on_message : Coord → Node → Message → List Gxid
victims_on_message c from (message.Graph round graph) = victims_on_graph c from round graph
victims_on_message c from _ = []

-- whom the recheck that an event brings cancels; no other event cancels anybody so
abbrev pub victims_at : Coord → NodeEvent → List Gxid
victims_at c (node.Deliver from envelope) = victims_on_message c from envelope.message
victims_at c _ = []
