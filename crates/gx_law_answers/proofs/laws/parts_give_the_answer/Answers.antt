use Rattle.gx_law_answers.proofs.Merging.{merged-answer}
use Rattle.gx_law_answers.proofs.laws.parts_give_the_answer.Goals as goal

pub returns : goal.returns
returns c = λ query whole parts of. merged-answer query whole parts of
