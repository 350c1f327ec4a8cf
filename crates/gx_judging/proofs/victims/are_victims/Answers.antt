use Rattle.std.proofs.Common.{◌∙◌, List, sym, subst}
use Rattle.gx_ids.specs.declared.ids.Gxid.{Gxid}
use Rattle.gx_waits.specs.LocalGraph.{edges_of}
use Rattle.gx_waits.specs.Victims.{AreVictims}
use Rattle.gx_judging.proofs.Naming.{victims-same}
use Rattle.gx_judging.proofs.victims.are_victims.Goals as goal

pub returns : goal.returns
returns c =
    let edges = edges_of c.args.graphs.now in
    let are = c.in_ok-chosen.ensures.victims in (
      λ t. subst (λ (vs : List Gxid). AreVictims edges vs) (c.are_same-are.ensures.0 t) (subst (λ (vs : List Gxid). AreVictims edges vs) (sym c.as_slice.ensures.value) are),
      λ named. c.are_same-are.ensures.1 (c.as_slice.ensures.value ∙ victims-same edges c.in_ok-chosen.chosen.items c.args.named.now are named),
    )
