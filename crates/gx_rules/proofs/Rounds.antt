-- What a round makes of either node, way by way: what holds of each way holds of the turn.
use Rattle.std.proofs.Common.{◌≡◌, ◌==◌, nat_lt, ℕ, [], Option, Some, None, Bool, true, false, refl, if◌then◌else◌}
use Rattle.std.proofs.lemmas.Bool.{and_parts}
use Rattle.gx_ids.specs.declared.ids.Gxid.{Gxid}
use Rattle.gx_ids.specs.declared.ids.Node.{Node}
use Rattle.gx_detect.specs.Rounds.{are_all}
use Rattle.gx_dtx.specs.Rules.{on_abort}
use Rattle.gx_dtx.specs.Table.{find_txn}
use Rattle.gx_store.specs.declared.answer.Refused.TheVariants.{Victim}
use Rattle.gx_waits.specs.declared.graph.LocalGraph.{LocalGraph}
use Rattle.gx_rules.specs.AtCoordinator.{cancels, is_refused, is_under_way, may_cancel}
use Rattle.gx_rules.specs.AtSegment.{on_collect, reports, reports_again}
use Rattle.gx_rules.specs.Coordinators.{Coord, CoordTurn, rests, work_of}
use Rattle.gx_rules.specs.Rounds.{is_live, is_report, on_graph, once_all, rechecks, with_report}
use Rattle.gx_rules.specs.Segments.{Seg, SegTurn, stays}
use Rattle.gx_locks.specs.Graphs.{graph_at}

-- a graph isn't taken, or is noted, and the last one brings the recheck
pub graph-ways : (P : CoordTurn → Type 0) (c : Coord) (from : Node) (round : ℕ) (graph : LocalGraph) → P (rests c) → (is_report c from round graph ≡ true → P (rests (with_report c graph)))
    → (is_report c from round graph ≡ true → are_all (with_report c graph).reports ≡ true → P (rechecks (with_report c graph))) → P (on_graph c from round graph)
graph-ways P c from round graph rest noted decided = by_report (is_report c from round graph) refl
  where
    by_all : is_report c from round graph ≡ true → (b : Bool) → are_all (with_report c graph).reports ≡ b → P (if b then rechecks (with_report c graph) else rests (with_report c graph))
    by_all e true f = decided e f
    by_all e false f = noted e

    by_report : (b : Bool) → is_report c from round graph ≡ b → P (if b then once_all (with_report c graph) else rests c)
    by_report true e = by_all e (are_all (with_report c graph).reports) refl
    by_report false e = rest

-- a victim is refused where it may be cancelled, and else left alone
pub cancel-ways : (P : CoordTurn → Type 0) (c : Coord) (g : Gxid) → P (rests c)
    → (is_live (find_txn c.table g) ≡ true → is_under_way (work_of c g) ≡ true → P (is_refused c g (on_abort c.table g) [] (Victim c.rounds))) → P (cancels c g)
cancel-ways P c g rest refused = by_test (may_cancel c g) refl
  where
    by_test : (b : Bool) → may_cancel c g ≡ b → P (if b then is_refused c g (on_abort c.table g) [] (Victim c.rounds) else rests c)
    by_test true e = let a = and_parts (is_live (find_txn c.table g)) (is_under_way (work_of c g)) e in refused a.0 a.1
    by_test false e = rest

-- a new round is told the segment's graph, the last one what was kept, and an older one nothing
pub collect-ways : (P : SegTurn → Type 0) (s : Seg) (round : ℕ) → P (stays s) → (nat_lt s.round round ≡ true → P (reports s round (graph_at s.locks)))
    → ((s.round == round) ≡ true → (graph : LocalGraph) → s.graph ≡ Some graph → P (reports_again s round (Some graph))) → P (on_collect s round)
collect-ways P s round stay new again = by_new (nat_lt s.round round) refl
  where
    by_kept : (s.round == round) ≡ true → (o : Option LocalGraph) → s.graph ≡ o → P (reports_again s round o)
    by_kept e None f = stay
    by_kept e (Some graph) f = again e graph f

    by_last : (b : Bool) → (s.round == round) ≡ b → P (if b then reports_again s round s.graph else stays s)
    by_last true e = by_kept e s.graph refl
    by_last false e = stay

    by_new : (b : Bool) → nat_lt s.round round ≡ b → P (if b then reports s round (graph_at s.locks) else (if s.round == round then reports_again s round s.graph else stays s))
    by_new true e = new e
    by_new false e = by_last (s.round == round) refl
