-- Why a run stopped before its end.
use Rattle.std.specs.Prelude.{ℕ, if◌then◌else◌, List, ◌++◌, codes}
use Rattle.std.specs.List.{flat_map}
use Rattle.std.specs.Fmt.{decimal}
use Rattle.gx_ids.specs.declared.ids.Node.{Node}
use Rattle.gx_waits.specs.declared.edge.Edge.{Edge}
use Rattle.gx_waits.specs.declared.graph.LocalGraph.{LocalGraph}
use Rattle.gx_meaning.specs.Order.{in_order}
use Rattle.gx_report.specs.LockText.{edge_order}

-- all turns were taken
abbrev pub turns_spent : List ℕ
turns_spent = codes "stopped: turns spent\n"

-- who waits for whom at a node, and whether the edge is dotted
abbrev pub wait_line : Node → Edge → List ℕ
wait_line node edge =
    codes "  node " ++ decimal node.0 ++ codes ": " ++ decimal edge.waiter.0 ++ codes " waits for " ++ decimal edge.holder.0 ++ (if edge.dotted then codes " dotted\n" else codes " solid\n")

-- a node's edges by waiter, then by holder, and solid before dotted
abbrev pub wait_lines : LocalGraph → List ℕ
wait_lines graph = flat_map (wait_line graph.node) (in_order edge_order graph.edges)

-- a line, and behind it the edges of graphs
abbrev pub waits_behind : List ℕ → List LocalGraph → List ℕ
waits_behind line graphs = line ++ flat_map wait_lines graphs

-- the run is stuck, and these edges are, a graph for each node
abbrev pub stuck_lines : List LocalGraph → List ℕ
stuck_lines graphs = waits_behind (codes "stopped: stuck\n") graphs
