use Rattle.std.proofs.Common.{◌↔◌, ◌∙◌, IsTrue, List, ap, subst}
use Rattle.std.specs.List.{AllByRecursion}
use Rattle.gx_ids.specs.declared.ids.Gxid.{Gxid}
use Rattle.gx_waits.specs.LocalGraph.{edges_of}
use Rattle.gx_waits.specs.declared.graph.LocalGraph.{LocalGraph}
use Rattle.gx_waits.specs.declared.placed_edge.PlacedEdge.{PlacedEdge}
use Rattle.gx_judging.specs.Standing.{StandsIfNamed}
use Rattle.gx_judging.proofs.Waits.{core-decided}
use Rattle.gx_judging.proofs.standing.does_core_stand.Goals as goal

pub returns : goal.returns
returns c =
    let locks = c.args.locks.now in
    let b = c.do_stand-stand.result in
    let stuck = edges_of c.in_ok-stuck.stuck.items in
    let listed = c.as_slice-placed.ensures.value ∙ c.in_ok-edges.ensures ∙ ap edges_of c.as_slice-waits.ensures.value in
    let by_name = subst (λ (names : List Gxid). IsTrue b ↔ AllByRecursion (StandsIfNamed names locks) c.as_slice-placed.result.now) c.as_slice-names.ensures.value c.do_stand-stand.ensures in
    let each = subst (λ (edges : List PlacedEdge). IsTrue b ↔ AllByRecursion (StandsIfNamed c.in_ok-named.named.items locks) edges) listed by_name in
    core-decided (edges_of c.args.graphs.now) locks c.in_ok-named.named.items stuck b c.in_ok-named.ensures.0 c.in_ok-named.ensures.1 c.in_ok-named.ensures.2 c.in_ok-stuck.ensures.stuck each
