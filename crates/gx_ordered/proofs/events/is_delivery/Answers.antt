use Rattle.gx_ordered.proofs.Following.{delivery-is}
use Rattle.gx_ordered.proofs.events.is_delivery.Goals as goal

pub returns-then-is_link : goal.returns-then-is_link
returns-then-is_link g c =
    let a = c.args in
    let is = delivery-is a.script.now g.steps a.progress.now a.from a.stamp.node a.number a.stamp.clock c.link.result.now c.requires.0 c.requires.1 (c.is_link.ensures.0 c.if-is_link.true) c.link.ensures in
    (λ t. is.0 (c.is_sent_before.ensures.0 t), λ d. c.is_sent_before.ensures.1 (is.1 d))
