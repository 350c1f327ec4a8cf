-- Who waits for whom at a node, by its locks, is who does so by the marks.
use Rattle.std.proofs.Common.{◌≡◌, ◌≤◌, ℕ, List, Bool, ap, ◌∙◌}
use Rattle.gx_ids.specs.declared.ids.Node.{Node}
use Rattle.gx_locks.specs.Graphs.{graph_at}
use Rattle.gx_locks.specs.Locks.{Locks}
use Rattle.gx_script.specs.declared.Script.{Script}
use Rattle.gx_store.specs.Cancelled.{wait_graph}
use Rattle.gx_store.specs.declared.event.Event.{Event}
use Rattle.gx_store.specs.declared.mark.Mark.{Mark}
use Rattle.gx_store.specs.Points.{marks_in}
use Rattle.gx_store.specs.Refusals.{the_coordinator}
use Rattle.gx_store.specs.Waits.{waits_at}
use Rattle.gx_waits.specs.declared.graph.LocalGraph.{LocalGraph}
use Rattle.gx_waits.specs.Graph.{edges_at}
use Rattle.gx_rules.specs.Machine.{World, world_of}
use Rattle.gx_law_order.proofs.Sent.{at}
use Rattle.gx_law_locks.specs.Marked.{AreLocksMarked, IsMarked}
use Rattle.gx_law_locks.proofs.HoldsInRuns.{world-locked}
use Rattle.gx_law_locks.specs.Held.{AreRoundsHeld}
use Rattle.gx_law_locks.proofs.RoundsInRuns.{rounds-held, world-rounded}

graph-marked : (marks : List Mark) (node : Node) (locks : Locks) → IsMarked marks node locks → locks.node ≡ node → graph_at locks ≡ wait_graph marks node
graph-marked marks node locks m own =
    ap (λ n. let g : LocalGraph = record { node = n; edges = edges_at locks.waits locks.holds } in g) own
    ∙ ap (λ waits. let g : LocalGraph = record { node = node; edges = edges_at waits locks.holds } in g) m.waits
    ∙ ap (λ holds. let g : LocalGraph = record { node = node; edges = edges_at (waits_at marks node) holds } in g) m.holds

module _ (script : Script) (some : 1 ≤ script.segments) (es : List (Event × Bool)) where
  abbrev w : World
  w = world_of script es

  marked : AreLocksMarked (world_of script es)
  marked = (world-locked script some es).marked

  held : AreRoundsHeld script (world_of script es)
  held = rounds-held script (world_of script es) (world-rounded script some es)

  pub graph-here : graph_at (world_of script es).coord.locks ≡ wait_graph (marks_in (world_of script es).steps) the_coordinator
  graph-here = graph-marked (marks_in w.steps) the_coordinator w.coord.locks marked.coordinator held.coordinator.own

  pub graph-there : (i : ℕ) → 1 ≤ i → graph_at ((world_of script es).segs i).locks ≡ wait_graph (marks_in (world_of script es).steps) (at i)
  graph-there i one = graph-marked (marks_in w.steps) (at i) (w.segs i).locks (marked.segments i one) (held.segments i one).own
