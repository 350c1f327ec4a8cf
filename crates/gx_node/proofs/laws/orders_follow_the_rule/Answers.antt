use Rattle.gx_node.proofs.Turns.{turn-makes}
use Rattle.gx_node.proofs.laws.orders_follow_the_rule.Goals as goal

pub returns : goal.returns
returns c = λ order s g fails. turn-makes order s g fails
