-- What the segments have reported in a round: a place for each, in the order of their numbers, which are from 1.
use Rattle.std.specs.Prelude.{ℕ, ◌+◌, ◌≤◌, ◌==◌, Bool, false, if◌then◌else◌, List, [], ◌∷◌, Option, Some, is_none, unwrap_or}
use Rattle.gx_ids.specs.declared.ids.Node.{Node}
use Rattle.gx_waits.specs.declared.graph.LocalGraph.{LocalGraph}

-- the node is one of so many segments
pub record IsSegment (segments : ℕ) (node : Node) : Type 0 where
  pub from_one : 1 ≤ node.0
  pub within : node.0 ≤ segments

-- the reports of the segments from a number on, once a graph came: of a segment the first one counts
abbrev pub noted_from : ℕ → List (Option LocalGraph) → LocalGraph → List (Option LocalGraph)
noted_from number [] graph = []
noted_from number (report ∷ reports) graph =
    (if graph.node.0 == number then Some (unwrap_or report graph) else report) ∷ noted_from (number + 1) reports graph

-- the reports once a graph came
abbrev pub noted : List (Option LocalGraph) → LocalGraph → List (Option LocalGraph)
noted reports graph = noted_from 1 reports graph

-- the segment has a place among these, of which the first is that of the segment with this number, and hasn't reported
abbrev pub lacks_from : ℕ → List (Option LocalGraph) → Node → Bool
lacks_from number [] segment = false
lacks_from number (report ∷ reports) segment = if segment.0 == number then is_none report else lacks_from (number + 1) reports segment
