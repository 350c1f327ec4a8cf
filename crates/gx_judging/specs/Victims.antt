-- Whom rounds of the detector name, by what nodes have reported.
use Rattle.std.specs.Prelude.{ℕ, zero, suc, List, [], ◌∷◌, ◌++◌, Option, Some, None}
use Rattle.gx_ids.specs.declared.ids.Gxid.{Gxid}
use Rattle.gx_ids.specs.declared.ids.Node.{Node}
use Rattle.gx_script.specs.declared.Script.{Script}
use Rattle.gx_waits.specs.LocalGraph.{edges_of}
use Rattle.gx_waits.specs.Victims.{AreVictims, IsInCore}
use Rattle.gx_waits.specs.declared.graph.LocalGraph.{LocalGraph}
use Rattle.gx_waits.specs.declared.placed_edge.PlacedEdge.{PlacedEdge}
use Rattle.gx_waits.specs.declared.verdict.Verdict.{Verdict}
use Rattle.gx_waits.specs.declared.verdict.Verdict.TheVariants.{Victims}
use Rattle.gx_store.specs.declared.event.Event.{Event}
use Rattle.gx_store.specs.declared.mark.Mark.{Mark}
use Rattle.gx_store.specs.declared.mark.Mark.TheVariants as mark
use Rattle.gx_store.specs.declared.run.Step.{Step}
use Rattle.gx_store.specs.Points.{marks_in}
use Rattle.gx_store.specs.Rounds.{StandsAt, last_report}

abbrev pub with_report : List LocalGraph → Option LocalGraph → List LocalGraph
with_report graphs None = graphs
with_report graphs (Some graph) = graphs ++ graph ∷ []

-- what the first so many segments have reported last for a round
abbrev pub reports_of : List Mark → ℕ → ℕ → List LocalGraph
reports_of marks round zero = []
reports_of marks round (suc n) = with_report (reports_of marks round n) (last_report (record { 0 = suc n }) round None marks)

-- Each wait of the core of these edges stands. The first victim is taken from it, and those from which the others are taken lie within it.
abbrev pub DoesCoreStand : List Mark → List PlacedEdge → Type 0
DoesCoreStand marks edges = (e : PlacedEdge) → IsInCore edges e → StandsAt marks e

-- a round that names somebody names those who are to be aborted by the coordinator's graph and these reports, and the waits of their core stand
abbrev pub IsNamedRightly : Script → List Mark → ℕ → LocalGraph → Verdict → Type 0
IsNamedRightly script marks round own (Victims victims) =
    AreVictims (edges_of (own ∷ reports_of marks round script.segments)) victims × DoesCoreStand marks (edges_of (own ∷ reports_of marks round script.segments))
IsNamedRightly script marks round own _ = Unit {0}

-- a round that a mark ends, behind these marks
abbrev pub NamesRightly : Script → List Mark → Mark → Type 0
NamesRightly script before (mark.Recheck round own verdict) = IsNamedRightly script before round own verdict
NamesRightly script before _ = Unit {0}

-- so does each of these marks, behind those before it
abbrev pub NameRightly : Script → List Mark → List Mark → Type 0
NameRightly script before [] = Unit {0}
NameRightly script before (m ∷ ms) = NamesRightly script before m × NameRightly script (before ++ m ∷ []) ms
