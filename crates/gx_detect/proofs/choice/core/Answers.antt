use Rattle.std.proofs.Common.{subst}
use Rattle.gx_waits.specs.LocalGraph.{edges_of}
use Rattle.gx_detect.specs.declared.place.Aim.TheVariants.{Core}
use Rattle.gx_detect.specs.Settled.{IsLargest, left_in}
use Rattle.gx_detect.proofs.CoreNames.{if_ok_weaker}
use Rattle.gx_detect.proofs.Parts.{is_core}
use Rattle.gx_detect.proofs.choice.core.Goals as goal

pub returns : goal.returns
returns c =
    let largest : IsLargest Core (edges_of c.args.graphs.now) (left_in c.in_ok-core.core) = subst (λ l. IsLargest Core l (left_in c.in_ok-core.core)) c.in_ok-all_edges.ensures c.in_ok-core.ensures.largest in
    if_ok_weaker _ _ c.names_of-names.result
    (λ names are. (left_in c.in_ok-core.core, is_core (edges_of c.args.graphs.now) (left_in c.in_ok-core.core) largest, are))
    c.names_of-names.ensures
