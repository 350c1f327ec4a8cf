-- The rounds of the detector at the coordinator.
use Rattle.std.specs.Prelude.{◌≡◌, ℕ, ◌+◌, ◌<◌, ◌^◌, ◌==◌, Bool, false, if◌then◌else◌, is_none, is_some, List, [], ◌∷◌, map, length, replicate, Option, None, Some}
use Rattle.std.specs.List.{filter_map, list_all, range_with_len}
use Rattle.std.specs.Option.{option_map}
use Rattle.gx_ids.specs.declared.ids.Node.{Node}
use Rattle.gx_msg.specs.declared.message.Message.TheVariants.{Collect}
use Rattle.gx_msg.specs.declared.message.Out.{Out}
use Rattle.gx_waits.specs.declared.graph.LocalGraph.{LocalGraph}
use Rattle.gx_waits.specs.declared.placed_edge.PlacedEdge.{PlacedEdge}
use Rattle.gx_waits.specs.LocalGraph.{edges_of}
use Rattle.gx_detect.specs.Reports.{lacks_from, noted}

-- how many segments there are, how many rounds have begun, and, while the last of them runs, what was reported in it
pub record Rounds : Type 0 where
  pub segments : ℕ
  pub begun : ℕ
  pub reports : Option (List (Option LocalGraph))

-- no round has begun
abbrev pub no_rounds : ℕ → Rounds
no_rounds segments = record { segments = segments; begun = 0; reports = None }

-- no round runs
abbrev pub is_idle : Rounds → Bool
is_idle d = is_none d.reports

-- there is a number for the next round
abbrev pub HasNumber : Rounds → Type 0
HasNumber d = d.begun < 2 ^ 62

-- the next round begins, in which nobody has reported
abbrev pub started : Rounds → Rounds
started d = record d { begun = d.begun + 1; reports = Some (replicate d.segments None) }

-- what asks each of so many segments for its graph of a round
abbrev pub collects : ℕ → ℕ → List Out
collects segments round = map (λ k. record { node = record { 0 = k }; message = Collect round }) (range_with_len 1 segments)

-- a graph comes for a round: it is noted where that round runs
abbrev pub heard : Rounds → ℕ → LocalGraph → Rounds
heard d round graph = if round == d.begun then record d { reports = option_map (λ reports. noted reports graph) d.reports } else d

-- a round runs, and the segment hasn't reported in it
abbrev pub lacks : Option (List (Option LocalGraph)) → Node → Bool
lacks None segment = false
lacks (Some reports) segment = lacks_from 1 reports segment

abbrev pub awaits : Rounds → Node → Bool
awaits d segment = lacks d.reports segment

-- every segment has reported
abbrev pub are_all : Option (List (Option LocalGraph)) → Bool
are_all None = false
are_all (Some reports) = list_all is_some reports

-- a round runs, and every segment has reported in it
abbrev pub is_complete : Rounds → Bool
is_complete d = are_all d.reports

-- the graphs that came, by their segments
abbrev pub graphs_in : Option (List (Option LocalGraph)) → List LocalGraph
graphs_in None = []
graphs_in (Some reports) = filter_map (λ report. report) reports

-- what a round is decided over: the edges of the coordinator's own graph, and of those that were reported
abbrev pub gathered : Rounds → LocalGraph → List PlacedEdge
gathered d own = edges_of (own ∷ graphs_in d.reports)

-- the round ends
abbrev pub ended : Rounds → Rounds
ended d = record d { reports = None }

-- there is a place for each segment
abbrev pub AreOfSegments : ℕ → Option (List (Option LocalGraph)) → Type 0
AreOfSegments segments None = Unit {0}
AreOfSegments segments (Some reports) = length reports ≡ segments
