-- Why a round may cancel whom it names: the waits by which it was decided still stand, and those of whom a victim is the youngest can't go
-- on unless one of them is aborted (after the idea of the Global Deadlock Detector, Lyu et al., SIGMOD 2021).
use Rattle.std.specs.Prelude.{◌≡◌, ◌↔◌, ℕ, not, List, [], ◌∷◌, ◌++◌, filter, map, All, Any, Contains}
use Rattle.gx_ids.specs.declared.ids.Gxid.{Gxid}
use Rattle.gx_ids.specs.declared.ids.Node.{Node}
use Rattle.gx_script.specs.declared.Script.{Script}
use Rattle.gx_waits.specs.Closed.{IsNamed, IsStuck}
use Rattle.gx_waits.specs.Edge.{names}
use Rattle.gx_waits.specs.Finish.{CanFinish}
use Rattle.gx_waits.specs.Graph.{edges_at}
use Rattle.gx_waits.specs.LocalGraph.{edges_of}
use Rattle.gx_waits.specs.Victims.{IsInCore, IsYoungest}
use Rattle.gx_waits.specs.declared.graph.LocalGraph.{LocalGraph}
use Rattle.gx_waits.specs.declared.placed_edge.PlacedEdge.{PlacedEdge}
use Rattle.gx_waits.specs.declared.verdict.Verdict.{Verdict}
use Rattle.gx_waits.specs.declared.verdict.Verdict.TheVariants.{Victims}
use Rattle.gx_store.specs.declared.event.Event.{Event}
use Rattle.gx_store.specs.declared.mark.Mark.{Mark}
use Rattle.gx_store.specs.declared.mark.Mark.TheVariants as mark
use Rattle.gx_store.specs.declared.run.Step.{Step}
use Rattle.gx_store.specs.Points.{Point, before, marks_in}
use Rattle.gx_store.specs.Refusals.{the_coordinator}
use Rattle.gx_store.specs.Rounds.{AreReportsOf, IsBlocked, StandsAt}
use Rattle.gx_store.specs.Schedule.{segments_of}
use Rattle.gx_store.specs.Waits.{holds_at, waits_at}

-- WHO WAITS FOR WHOM
-- the edges that stand at a node, and those of all nodes
abbrev pub wait_graph : List Mark → Node → LocalGraph
wait_graph marks node = record { node = node; edges = edges_at (waits_at marks node) (holds_at marks node) }

abbrev pub waits_in : Script → List Mark → List PlacedEdge
waits_in script marks = edges_of (map (wait_graph marks) (the_coordinator ∷ segments_of script))

-- THE GRAPHS STILL STAND
-- where somebody is named, each wait of the round's graphs that is stuck, at whatever moment it was reported, stands when it is decided
abbrev pub DoStuckStand : Script → Point → ℕ → LocalGraph → Verdict → Type 0
DoStuckStand script point round own (Victims victims) =
    (reports : List LocalGraph) → AreReportsOf script point round reports → (e : PlacedEdge) → IsStuck (edges_of (own ∷ reports)) e → StandsAt (before point) e
DoStuckStand script point round own _ = Unit {0}

-- A VICTIM
-- The core that a round's graphs leave to a victim: it is blocked at the point, and was so when the step before ended. The victim is the
-- youngest in it, each member is waited for by another, none can finish however the others go on, and nobody named before is in it.
pub record IsVictimAt (script : Script) (point : Point) (edges : List PlacedEdge) (named : List Gxid) (v : Gxid) : Type 0 where
  pub set : List PlacedEdge
  pub core : (e : PlacedEdge) → Contains set e ↔ IsInCore edges e
  pub blocked : IsBlocked (before point) set
  pub blocked_before : IsBlocked (marks_in point.steps) set
  pub youngest : IsYoungest set v
  pub waited_for : All (λ e. Any (λ f. f.edge.holder ≡ e.edge.waiter) set) set
  pub never : (w : Gxid) → IsNamed set w → CanFinish (waits_in script (before point)) w → ⊥
  pub others : (w : Gxid) → Contains named w → IsNamed set w → ⊥

-- one behind the other, each over the edges that don't name those before it
abbrev pub AreVictimsAt : Script → Point → List PlacedEdge → List Gxid → List Gxid → Type 0
AreVictimsAt script point edges named [] = Unit {0}
AreVictimsAt script point edges named (v ∷ victims) =
    IsVictimAt script point edges named v × AreVictimsAt script point (filter (λ e. not (names v e.edge)) edges) (named ++ v ∷ []) victims

-- whoever a round names is such a victim
abbrev pub AreNamedRightly : Script → Point → ℕ → LocalGraph → Verdict → Type 0
AreNamedRightly script point round own (Victims victims) =
    (reports : List LocalGraph) → AreReportsOf script point round reports → AreVictimsAt script point (edges_of (own ∷ reports)) [] victims
AreNamedRightly script point round own _ = Unit {0}

-- EVERY ROUND OF A RUN
-- this holds of each round that the marks of a step end
abbrev pub EachRecheckIn : (Point → ℕ → LocalGraph → Verdict → Type 0) → List Step → Event → List Mark → List Mark → Type 0
EachRecheckIn P steps event earlier [] = Unit {0}
EachRecheckIn P steps event earlier (mark.Recheck round own verdict ∷ ms) =
    P (record { steps = steps; event = event; earlier = earlier; later = ms }) round own verdict × EachRecheckIn P steps event (earlier ++ mark.Recheck round own verdict ∷ []) ms
EachRecheckIn P steps event earlier (m ∷ ms) = EachRecheckIn P steps event (earlier ++ m ∷ []) ms

abbrev pub EachRecheck : (Point → ℕ → LocalGraph → Verdict → Type 0) → List Step → List Step → Type 0
EachRecheck P steps [] = Unit {0}
EachRecheck P steps (s ∷ ss) = EachRecheckIn P steps s.event [] s.marks × EachRecheck P (steps ++ s ∷ []) ss
