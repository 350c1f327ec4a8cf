use Rattle.std.proofs.Common.{◌↔◌, ◌∙◌, ◌∷◌, IsTrue, List, subst}
use Rattle.std.specs.Prelude.{IfOk}
use Rattle.gx_ids.specs.declared.ids.Gxid.{Gxid}
use Rattle.gx_waits.specs.LocalGraph.{edges_of}
use Rattle.gx_waits.specs.Victims.{AreVictims}
use Rattle.gx_waits.specs.declared.graph.LocalGraph.{LocalGraph}
use Rattle.gx_judging.specs.Victims.{DoesCoreStand, reports_of}
use Rattle.gx_judging.proofs.victims.is_named_rightly.Goals as goal

pub returns-in_ok-graphs-in-Victims : goal.returns-in_ok-graphs-in-Victims
returns-in_ok-graphs-in-Victims c =
    let ms = c.args.marks.now in
    let P : List LocalGraph → List Gxid → Type 0 = λ graphs named. IfOk c.are_named.result (λ is. IsTrue is ↔ (AreVictims (edges_of graphs) named × DoesCoreStand ms (edges_of graphs))) in
    let all : List LocalGraph = c.args.own.now ∷ reports_of ms c.args.round c.args.script.now.segments in
    let by_graphs = subst (λ (graphs : List LocalGraph). P graphs c.as_slice-in-Victims.result.now) (c.as_slice.ensures.value ∙ c.in_ok-graphs-in-Victims.ensures) c.are_named.ensures in
    rw c.in-Victims.is (subst (λ (named : List Gxid). P all named) c.as_slice-in-Victims.ensures by_graphs)
