-- The graphs by which a round is decided.
use Rattle.std.specs.Prelude.{◌≡◌, ℕ, ◌+◌, List, [], ◌∷◌, ◌++◌, slice_get, Some}
use Rattle.gx_waits.specs.declared.graph.LocalGraph.{LocalGraph}
use Rattle.gx_store.specs.declared.mark.Mark.{Mark}
use Rattle.gx_store.specs.declared.run.Step.{Step}
use Rattle.gx_store.specs.Points.{marks_in}
use Rattle.gx_store.specs.Refusals.{the_coordinator}
use Rattle.gx_store.specs.Rounds.{AreReports, IsGraphAt, SendNoted}
use Rattle.gx_law_locks.specs.Reports.{IsReported}

-- the coordinator's own graph is of now, and each segment's, in their order, of some earlier point
pub record AreGathered (marks : List Mark) (own : LocalGraph) (reports : List LocalGraph) : Type 0 where
  pub here : IsGraphAt marks the_coordinator own
  pub nodes : (i : ℕ) (graph : LocalGraph) → slice_get reports i ≡ Some graph → graph.node ≡ record { 0 = i + 1 }
  pub reported : (i : ℕ) (graph : LocalGraph) → slice_get reports i ≡ Some graph → IsReported marks graph

-- reports tell what stands at their point, and a segment sends the graph that it noted last: so it is of each of these steps
abbrev pub AreNoted : List Step → List Step → Type 0
AreNoted done [] = Unit {0}
AreNoted done (s ∷ ss) = AreReports done s.event [] s.marks × SendNoted s.stamp.node (marks_in done) s.marks × AreNoted (done ++ s ∷ []) ss
