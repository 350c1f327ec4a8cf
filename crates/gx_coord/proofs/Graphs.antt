-- The detector and the rule say the same of rounds.
use Rattle.std.proofs.Common.{◌≡◌, ◌∙◌, ℕ, ◌==◌, ◌&&◌, List, [], Option, Some, None, Bool, true, if◌then◌else◌, refl, sym, subst, ap, filter, map}
use Rattle.std.proofs.Math.Path.{fun_ext}
use Rattle.std.proofs.lemmas.Bool.{and_parts, eqb-true}
use Rattle.std.specs.Prelude.{option_map}
use Rattle.gx_ids.specs.declared.ids.Gxid.{Gxid}
use Rattle.gx_ids.specs.declared.ids.Node.{Node}
use Rattle.gx_detect.specs.Reports as own
use Rattle.gx_detect.specs.Reports.{IsSegment}
use Rattle.gx_detect.specs.Rounds as awaited
use Rattle.gx_detect.specs.Rounds.{Rounds, started}
use Rattle.gx_detect.specs.Verdicts.{verdict_of}
use Rattle.gx_dtx.specs.Table as table
use Rattle.gx_dtx.specs.Table.{Table}
use Rattle.gx_dtx.specs.declared.phase.Phase.{Phase}
use Rattle.gx_dtx.specs.declared.phase.Phase.TheVariants.{Active, Preparing, CommittingOne, CommittingTwo, Ended, Aborting}
use Rattle.gx_dtx.specs.declared.txn.Txn.{Txn}
use Rattle.gx_locks.specs.Graphs.{graph_at}
use Rattle.gx_waits.specs.declared.graph.LocalGraph.{LocalGraph}
use Rattle.gx_rules.specs.Coordinators as rule
use Rattle.gx_rules.specs.Rounds.{active_in, awaits_graph, is_active, is_report, noted_in, on_graph, verdict_at, victims_on_graph, victims_once_all, with_report}
use Rattle.gx_rules.proofs.Rounds.{graph-ways}
use Rattle.gx_coord.specs.Books.{coord_of}
use Rattle.gx_coord.specs.declared.coord.Coord.{Coord}

pub noted-same : (reports : Option (List (Option LocalGraph))) (graph : LocalGraph) → option_map (λ rs. own.noted rs graph) reports ≡ noted_in reports graph
noted-same None graph = refl
noted-same (Some reports) graph = refl

active-phase : (p : Phase) → table.is_active p ≡ is_active p
active-phase Active = refl
active-phase (Preparing a b) = refl
active-phase (CommittingOne a) = refl
active-phase (CommittingTwo a) = refl
active-phase (Ended a) = refl
active-phase (Aborting a) = refl

pub active-same : (d : Table) → table.active_of d ≡ active_in d
active-same d = ap (λ (f : Phase → Bool). map (λ (e : Gxid × Txn). e.0) (filter (λ e. f e.1.phase) d.txns)) (fun_ext active-phase)

-- a graph sends nothing, and the journal takes nothing
pub graph-quiet : (c : rule.Coord) (from : Node) (round : ℕ) (graph : LocalGraph) → ((on_graph c from round graph).outs ≡ []) × ((on_graph c from round graph).item ≡ None)
graph-quiet c from round graph = graph-ways (λ turn. (turn.outs ≡ []) × (turn.item ≡ None)) c from round graph (refl, refl) (λ r. (refl, refl)) (λ r a. (refl, refl))

-- CALLS ON THE DETECTOR
heard-is : (d : Rounds) (round : ℕ) (graph : LocalGraph) → (round == d.begun) ≡ true → awaited.heard d round graph ≡ record d { reports = option_map (λ rs. own.noted rs graph) d.reports }
heard-is d round graph e = ap (λ b. if b then record d { reports = option_map (λ rs. own.noted rs graph) d.reports } else d) e

pub noted-segments : (k d : Rounds) (round : ℕ) (graph : LocalGraph) → (round == k.begun) ≡ true → d ≡ awaited.heard k round graph → d.segments ≡ k.segments
noted-segments k d round graph e h = ap (λ (x : Rounds). x.segments) (h ∙ heard-is k round graph e)

pub noted-is : (k : Coord) (d : Rounds) (round : ℕ) (graph : LocalGraph) → (round == k.detector.begun) ≡ true → d ≡ awaited.heard k.detector round graph → coord_of (record k { detector = d }) ≡ with_report (coord_of k) graph
noted-is k d round graph e h =
    ap (λ (x : Rounds). coord_of (record k { detector = x })) (h ∙ heard-is k.detector round graph e)
    ∙ ap (λ rs. record (coord_of k) { reports = rs }) (noted-same k.detector.reports graph)

pub verdict-is : (k : Coord) (graph : LocalGraph) (active : List Gxid) → graph ≡ graph_at k.locks → active ≡ active_in k.dtx → verdict_of (awaited.gathered k.detector graph) active ≡ verdict_at (coord_of k)
verdict-is k graph active e h =
    ap (λ g. verdict_of (awaited.gathered k.detector g) active) e
    ∙ ap (λ gs. verdict_of (awaited.gathered k.detector (graph_at k.locks)) gs) h

-- WHO SENDS A GRAPH
pub report-segment : (c : rule.Coord) (from : Node) (round : ℕ) (graph : LocalGraph) (segments : ℕ) → is_report c from round graph ≡ true → IsSegment segments from → IsSegment segments graph.node
report-segment c from round graph segments e h =
    subst (λ n. IsSegment segments (record { 0 = n })) (sym (eqb-true graph.node.0 from.0 (and_parts (graph.node.0 == from.0) ((round == c.rounds) && awaits_graph c from) e).0)) h

pub report-round : (c : rule.Coord) (from : Node) (round : ℕ) (graph : LocalGraph) → is_report c from round graph ≡ true → (round == c.rounds) ≡ true
report-round c from round graph e = (and_parts (round == c.rounds) (awaits_graph c from) (and_parts (graph.node.0 == from.0) ((round == c.rounds) && awaits_graph c from) e).1).0

-- whom a graph that is taken names
pub taken-victims : (c k : rule.Coord) (from : Node) (round : ℕ) (graph : LocalGraph) → is_report c from round graph ≡ true → k ≡ with_report c graph → victims_once_all k ≡ victims_on_graph c from round graph
taken-victims c k from round graph e h = ap victims_once_all h ∙ sym (ap (λ b. if b then victims_once_all (with_report c graph) else []) e)
