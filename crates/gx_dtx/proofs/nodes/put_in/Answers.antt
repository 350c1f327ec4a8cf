use Rattle.std.proofs.Common.{◌∙◌, ap, ltb}
use Rattle.std.specs.List.{list_all}
use Rattle.gx_dtx.proofs.Above.{put-above}
use Rattle.gx_dtx.proofs.nodes.put_in.Goals as goal

pub returns-then-is_above-clause-ok : goal.returns-then-is_above-clause-ok
returns-then-is_above-clause-ok c =
    put-above c.args.node c.args.nodes.now c.push.new.self c.push.result c.is_above.result (c.is_above.ensures ∙ ap (list_all (λ j. ltb j.0 c.args.node.0)) c.as_slice.ensures) c.if-is_above.true c.push.ensures.ok
