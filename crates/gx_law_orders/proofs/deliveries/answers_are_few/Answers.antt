use Rattle.gx_law_orders.proofs.Answers.{answers-few}
use Rattle.gx_law_orders.proofs.deliveries.answers_are_few.Goals as goal

pub returns : goal.returns
returns c = λ script steps some is. answers-few script some steps is
