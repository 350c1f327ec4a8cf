-- What a segment tells the rounds that ask for its graph, and what it keeps of the last one.
use Rattle.std.specs.Prelude.{ℕ, ◌==◌, nat_lt, false, if◌then◌else◌, [], ◌∷◌, option_map, Some, None}
use Rattle.std.specs.declared.option.Option.{Option}
use Rattle.gx_ids.specs.declared.ids.Node.{Node}
use Rattle.gx_waits.specs.declared.graph.LocalGraph.{LocalGraph}
use Rattle.gx_locks.specs.Graphs.{graph_at}
use Rattle.gx_locks.specs.Locks.{Locks}
use Rattle.gx_msg.specs.declared.message.Message.{Message}
use Rattle.gx_msg.specs.declared.message.Message.TheVariants.{Collect, Graph}
use Rattle.gx_store.specs.declared.mark.Mark.TheVariants.{Report}
use Rattle.gx_store.specs.declared.node.NodeEvent.{NodeEvent}
use Rattle.gx_store.specs.declared.node.NodeEvent.TheVariants.{Deliver}
use Rattle.gx_rules.specs.AtSegment.{on_collect}
use Rattle.gx_rules.specs.Segments.{Seg}
use Rattle.gx_segment.specs.declared.collecting.LastReport.{LastReport}
use Rattle.gx_segment.specs.Done.{Came}

-- WHAT IS KEPT
abbrev pub report_in : Seg → LastReport
report_in s = record { round = s.round; graph = s.graph }

-- once a message came: no other than COLLECT changes it
abbrev pub report_after : Seg → Message → LastReport
report_after s (Collect round) = report_in (on_collect s round).seg
report_after s _ = report_in s

abbrev pub report_behind : Seg → NodeEvent → LastReport
report_behind s (Deliver from envelope) = report_after s envelope.message
report_behind s _ = report_in s

-- WHAT IS TOLD
abbrev pub told_now : Node → ℕ → LocalGraph → Came
told_now node round graph = record { marks = Report node round graph ∷ []; answer = Some (Graph round graph); fails = false }

abbrev pub told_again : ℕ → Option LocalGraph → Came
told_again round graph = record { marks = []; answer = option_map (Graph round) graph; fails = false }

-- a round that asks a segment with these locks
abbrev pub told : Node → Locks → LastReport → ℕ → Came
told node locks report round =
    if nat_lt report.round round
    then told_now node round (graph_at locks)
    else (if report.round == round then told_again round report.graph else record { marks = []; answer = None; fails = false })

abbrev pub kept : Locks → LastReport → ℕ → LastReport
kept locks report round = if nat_lt report.round round then record { round = round; graph = Some (graph_at locks) } else report
