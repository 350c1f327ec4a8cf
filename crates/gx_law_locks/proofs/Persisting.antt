-- What is stuck in reports of different moments is blocked now; and who is blocked can't finish.
use Rattle.std.proofs.Common.{◌≡◌, inl, inr, true, List, [], ◌++◌, refl, sym, subst, ◌∙◌}
use Rattle.std.proofs.lemmas.List.Elements.{All-weaker}
use Rattle.std.specs.Prelude.{All, Contains}
use Rattle.gx_ids.specs.declared.ids.Gxid.{Gxid}
use Rattle.gx_ids.specs.declared.ids.Node.{Node}
use Rattle.gx_waits.proofs.Members.{Has, all_from_each, contains_from_has, each_from_all, has_from_contains}
use Rattle.gx_waits.proofs.StuckWaits.{stuck_never_finishes}
use Rattle.gx_waits.specs.Closed.{IsClosed, IsNamedInStuck, IsStuck, IsWithin}
use Rattle.gx_waits.specs.LocalGraph.{edges_of}
use Rattle.gx_waits.specs.declared.graph.LocalGraph.{LocalGraph}
use Rattle.gx_waits.specs.declared.placed_edge.PlacedEdge.{PlacedEdge}
use Rattle.gx_store.specs.declared.mark.Mark.{Mark}
use Rattle.gx_store.specs.Rounds.{IsBlocked, StandsAt, is_active}
use Rattle.gx_store.specs.Waits.{holds_at, waits_at}
use Rattle.gx_law_locks.specs.Waiting.{EachBehind}
use Rattle.gx_law_locks.proofs.Lets.{behind-front, behind-rest}
use Rattle.gx_law_locks.specs.Reports.{AreOneANode, IsBlockedForGood, IsReported, IsStuckBlocked}
use Rattle.gx_law_locks.proofs.Fair.{IsFair}
use Rattle.gx_law_locks.proofs.Graphs.{IsToldBy, told-by}
use Rattle.gx_law_locks.proofs.Sharing.{shared-first}
use Rattle.gx_law_locks.proofs.Standing.{Live, StandHere, Stands, edge-of, stand-behind, stands-of}
use Rattle.gx_law_locks.proofs.Staying.{not-ended}

-- A CLOSED SET OF WHAT WAS REPORTED
module _ (marks : List Mark) (fair : EachBehind IsFair [] marks) (graphs : List LocalGraph) (reported : All (IsReported marks) graphs) (one : AreOneANode graphs)
    (active : (g : Gxid) → IsNamedInStuck (edges_of graphs) g → is_active marks g ≡ true) (set : List PlacedEdge) (closed : IsClosed set) (within : IsWithin set (edges_of graphs))
  where
    told : (e : PlacedEdge) → Has e set → IsToldBy graphs e
    told e h = told-by graphs e (has_from_contains e (edges_of graphs) (each_from_all (λ x. Contains (edges_of graphs) x) set within e h))

    stuck : (e : PlacedEdge) → Has e set → IsStuck (edges_of graphs) e
    stuck e h = record { set = set; closed = closed; within = within; member = contains_from_has e set h }

    runs : (e : PlacedEdge) → Has e set → (is_active marks e.edge.waiter ≡ true) × (is_active marks e.edge.holder ≡ true)
    runs e h = (active e.edge.waiter (e, stuck e h, inl refl), active e.edge.holder (e, stuck e h, inr refl))

    live : (node : Node) → Live set closed node marks
    live node e h = (not-ended marks e.edge.waiter (runs e h).0, not-ended marks e.edge.holder (runs e h).1)

    -- what it has of a node stood together when that was reported
    stood : (graph : LocalGraph) → Has graph graphs → (r : IsReported marks graph) → StandHere set closed graph.node r.before
    stood graph among r e h at_node =
        let t = told e h in
        let same : t.graph ≡ graph = one t.graph graph (contains_from_has t.graph graphs t.among) (contains_from_has graph graphs among) (sym t.place ∙ at_node) in
        stands-of (waits_at r.before graph.node) (holds_at r.before graph.node) e.edge
        (r.tells.edges.no_others e.edge (contains_from_has e.edge graph.edges (subst (λ (g : LocalGraph). Has e.edge g.edges) same t.told)))

    -- and stands now
    stand : (graph : LocalGraph) → Has graph graphs → IsReported marks graph → StandHere set closed graph.node marks
    stand graph among r =
        let all : EachBehind IsFair [] (r.before ++ r.later) = subst (EachBehind IsFair []) r.point fair in
        subst (StandHere set closed graph.node) (sym r.point)
        (stand-behind set closed graph.node r.before r.later (behind-rest IsFair [] r.before r.later all) (shared-first r.before (behind-front IsFair [] r.before r.later all))
        (subst (Live set closed graph.node) r.point (live graph.node)) (stood graph among r))

    standing : (e : PlacedEdge) → Has e set → StandsAt marks e
    standing e h =
        let t = told e h in
        edge-of (waits_at marks e.node) (holds_at marks e.node) e.edge
        (subst (λ n. Stands (waits_at marks n) (holds_at marks n) e.edge) (sym t.place) (stand t.graph t.among (each_from_all (IsReported marks) graphs reported t.graph t.among) e h t.place))

    pub stuck-blocked : IsBlocked marks set
    stuck-blocked =
        record {
          closed = closed;
          standing = all_from_each (StandsAt marks) set standing;
          active = all_from_each (λ placed. (is_active marks placed.edge.waiter ≡ true) × (is_active marks placed.edge.holder ≡ true)) set runs;
        }

pub is-stuck-blocked : (marks : List Mark) → EachBehind IsFair [] marks → IsStuckBlocked marks
is-stuck-blocked marks fair graphs reported one active set closed within = stuck-blocked marks fair graphs reported one active set closed within

-- WHO CAN'T FINISH
pub is-blocked-for-good : (marks : List Mark) → IsBlockedForGood marks
is-blocked-for-good marks edges set all blocked e g member named finishes =
    stuck_never_finishes edges g (e, record { set = set; closed = blocked.closed; within = All-weaker (StandsAt marks) (λ x. Contains edges x) all set blocked.standing; member = member }, named) finishes
