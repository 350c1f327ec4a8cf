use Rattle.std.proofs.Common.{subst, sym}
use Rattle.gx_waits.specs.LocalGraph.{edges_of}
use Rattle.gx_detect.specs.Settled.{HasStuck}
use Rattle.gx_detect.proofs.Chosen.{none_chosen}
use Rattle.gx_detect.proofs.CoreNames.{if_ok_weaker}
use Rattle.gx_detect.proofs.Parts.{all_have_stuck}
use Rattle.gx_detect.proofs.choice.victims.Goals as goal

pub returns-clause-victims : goal.returns-clause-victims
returns-clause-victims c =
    if_ok_weaker _ _ c.victims_in.result (λ victims f. f (edges_of c.args.graphs.now) (subst (HasStuck (edges_of c.args.graphs.now)) (sym c.in_ok-all_edges.ensures) (all_have_stuck (edges_of c.args.graphs.now))))
    c.victims_in.ensures.victims

pub returns-clause-cores : goal.returns-clause-cores
returns-clause-cores c =
    if_ok_weaker _ _ c.victims_in.result (λ victims f. f (edges_of c.args.graphs.now) (subst (HasStuck (edges_of c.args.graphs.now)) (sym c.in_ok-all_edges.ensures) (all_have_stuck (edges_of c.args.graphs.now))))
    c.victims_in.ensures.cores

pub returns-clause-none : goal.returns-clause-none
returns-clause-none c = if_ok_weaker _ _ c.victims_in.result (λ victims are. none_chosen (edges_of c.args.graphs.now) victims.items are) (returns-clause-victims c)
