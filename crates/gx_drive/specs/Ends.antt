-- How a run of a driver ends.
use Rattle.std.specs.Prelude.{◌≡◌, ◌<◌, ◌≤◌, ◌↔◌, ℕ, List, [], ◌∷◌, true, false, length, Contains, ◌⊎◌}
use Rattle.gx_ids.specs.declared.ids.Node.{Node}
use Rattle.gx_waits.specs.Closed.{IsStuck}
use Rattle.gx_waits.specs.LocalGraph.{edges_of}
use Rattle.gx_waits.specs.declared.edge.Edge.{Edge}
use Rattle.gx_waits.specs.declared.graph.LocalGraph.{LocalGraph}
use Rattle.gx_waits.specs.declared.placed_edge.PlacedEdge.{PlacedEdge}
use Rattle.gx_script.specs.declared.Script.{Script}
use Rattle.gx_store.specs.Cancelled.{wait_graph, waits_in}
use Rattle.gx_store.specs.Points.{marks_in}
use Rattle.gx_store.specs.declared.mark.Mark.{Mark}
use Rattle.gx_store.specs.Refusals.{the_coordinator}
use Rattle.gx_store.specs.Groups.{enabled_in}
use Rattle.gx_store.specs.Schedule.{is_any_unfinished, segments_of}
use Rattle.gx_store.specs.Whole.{AreInsertsWhole}
use Rattle.gx_store.specs.declared.run.Step.{Step}
use Rattle.gx_drive.specs.declared.end.End.{End}
use Rattle.gx_drive.specs.declared.end.End.TheVariants.{Done, Stuck, Turns}

-- all turns were taken, and a session is unfinished
pub record AreTurnsSpent (script : Script) (steps : List Step) (turns : ℕ) : Type 0 where
  pub all : length steps ≡ turns
  pub unfinished : is_any_unfinished script steps ≡ true

-- turns are left and a session is unfinished, but nothing is enabled that the groups let
pub record CannotGoOn (script : Script) (steps : List Step) (turns : ℕ) : Type 0 where
  pub left : length steps < turns
  pub unfinished : is_any_unfinished script steps ≡ true
  pub nothing : enabled_in script steps ≡ []

-- of the edges that stand at a node, in their order, those for which this holds
abbrev pub AreThose : (PlacedEdge → Type 0) → Node → List Edge → List Edge → Type 0
AreThose P node [] kept = kept ≡ []
AreThose P node (e ∷ es) kept =
    (P (record { node = node; edge = e }) × ((rest : List Edge) × (kept ≡ e ∷ rest) × AreThose P node es rest))
    ⊎ ((P (record { node = node; edge = e }) → ⊥) × AreThose P node es kept)

-- a graph for each of these nodes, in their order: of the waits that stand there those that are stuck among the waits of all nodes
abbrev pub AreStuckAt : Script → List Mark → List Node → List LocalGraph → Type 0
AreStuckAt script marks [] graphs = graphs ≡ []
AreStuckAt script marks (n ∷ ns) [] = ⊥
AreStuckAt script marks (n ∷ ns) (g ∷ gs) = (g.node ≡ n) × AreThose (IsStuck (waits_in script marks)) n (wait_graph marks n).edges g.edges × AreStuckAt script marks ns gs

-- which waits are stuck: all that are, of every node, and no others
pub record AreStuckWaits (script : Script) (steps : List Step) (graphs : List LocalGraph) : Type 0 where
  pub edges : (e : PlacedEdge) → Contains (edges_of graphs) e ↔ IsStuck (waits_in script (marks_in steps)) e
  pub nodes : AreStuckAt script (marks_in steps) (the_coordinator ∷ segments_of script) graphs

-- a run is stuck only without a detector, where each INSERT of the script has tuples
abbrev pub IsStuckWithout : Script → End → Type 0
IsStuckWithout script end = (graphs : List LocalGraph) → end ≡ Stuck graphs → AreInsertsWhole script.tables script.lines → script.detector ≡ false

-- no more turns were taken than may be, and each end comes exactly where its cause holds; that of Done is that no session is unfinished
pub record IsEnd (script : Script) (steps : List Step) (turns : ℕ) (end : End) : Type 0 where
  pub within : length steps ≤ turns
  pub done : (end ≡ Done) ↔ (is_any_unfinished script steps ≡ false)
  pub spent : (end ≡ Turns) ↔ AreTurnsSpent script steps turns
  pub stuck : ((graphs : List LocalGraph) × (end ≡ Stuck graphs)) ↔ CannotGoOn script steps turns
  pub waits : (graphs : List LocalGraph) → end ≡ Stuck graphs → AreStuckWaits script steps graphs
