use Rattle.gx_detect.specs.Settled.{left_in}
use Rattle.gx_detect.proofs.CoreNames.{if_ok_weaker}
use Rattle.gx_detect.proofs.Parts.{largest_of_all}
use Rattle.gx_detect.proofs.choice.victims_in.Goals as goal

pub returns-clause-victims : goal.returns-clause-victims
returns-clause-victims c =
    if_ok_weaker _ _ c.in_turn-victims.result (λ victims f. λ all has. f all (largest_of_all all c.args.edges.items (left_in c.in_ok-core.core) has c.in_ok-core.ensures.largest)) c.in_turn-victims.ensures.victims

pub returns-clause-cores : goal.returns-clause-cores
returns-clause-cores c =
    if_ok_weaker _ _ c.in_turn-victims.result (λ victims f. λ all has. f all (largest_of_all all c.args.edges.items (left_in c.in_ok-core.core) has c.in_ok-core.ensures.largest)) c.in_turn-victims.ensures.cores
