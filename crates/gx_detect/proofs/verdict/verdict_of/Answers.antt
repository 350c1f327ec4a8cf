use Rattle.std.proofs.Common.{List, fold, ap, subst, sym, ◌∙◌}
use Rattle.std.specs.Prelude.{Contains, None}
use Rattle.gx_waits.specs.declared.placed_edge.PlacedEdge.{PlacedEdge}
use Rattle.gx_waits.specs.Closed.{IsStuck}
use Rattle.gx_waits.specs.LocalGraph.{edges_of}
use Rattle.gx_waits.specs.Victims.{IsVerdict}
use Rattle.gx_detect.specs.Deadlocks.{NamesVictims}
use Rattle.gx_detect.specs.Inactive.{with_waiter}
use Rattle.gx_detect.proofs.Least.{all_active, is_least_inactive}
use Rattle.gx_detect.proofs.Parts.{stuck_have_stuck}
use Rattle.gx_detect.proofs.Victim.{is_verdict, names_victims}
use Rattle.gx_detect.proofs.verdict.verdict_of.Goals as goal

abbrev AreStuck : List PlacedEdge → List PlacedEdge → Type 0
AreStuck stuck edges = (e : PlacedEdge) → (Contains stuck e → IsStuck edges e) × (IsStuck edges e → Contains stuck e)

pub returns-in-Some-clause-verdict : goal.returns-in-Some-clause-verdict
returns-in-Some-clause-verdict c =
    is_least_inactive (edges_of c.args.graphs.now) c.in_ok-stuck.stuck.items c.args.active.now
    (subst (AreStuck c.in_ok-stuck.stuck.items) c.in_ok-all_edges.ensures c.in_ok-stuck.ensures) c.in-Some.gxid
    (c.in-Some.ensures ∙ ap (fold (with_waiter c.args.active.now) None) c.deref.ensures.value)

pub returns-in_ok-victims_in-in-None-clause-verdict : goal.returns-in_ok-victims_in-in-None-clause-verdict
returns-in_ok-victims_in-in-None-clause-verdict c =
    let edges = edges_of c.args.graphs.now in
    let stuck = subst (AreStuck c.in_ok-stuck.stuck.items) c.in_ok-all_edges.ensures c.in_ok-stuck.ensures in
    subst (λ verdict. IsVerdict edges c.args.active.now verdict) (sym c.naming.ensures)
    (is_verdict edges c.args.active.now
    (all_active edges c.in_ok-stuck.stuck.items c.args.active.now stuck
    (c.in-None.ensures ∙ ap (fold (with_waiter c.args.active.now) None) c.deref.ensures.value))
    c.in_ok-victims_in-in-None.field-0.items (c.in_ok-victims_in-in-None.ensures.victims edges (stuck_have_stuck edges c.in_ok-stuck.stuck.items stuck)))

pub returns-in_ok-victims_in-in-None-clause-victims : goal.returns-in_ok-victims_in-in-None-clause-victims
returns-in_ok-victims_in-in-None-clause-victims c =
    let edges = edges_of c.args.graphs.now in
    let has = stuck_have_stuck edges c.in_ok-stuck.stuck.items (subst (AreStuck c.in_ok-stuck.stuck.items) c.in_ok-all_edges.ensures c.in_ok-stuck.ensures) in
    subst (λ verdict. NamesVictims edges verdict) (sym c.naming.ensures)
    (names_victims edges c.in_ok-victims_in-in-None.field-0.items (c.in_ok-victims_in-in-None.ensures.victims edges has) (c.in_ok-victims_in-in-None.ensures.cores edges has))
