use Rattle.gx_law_answers.proofs.Always.{all-earned}
use Rattle.gx_law_answers.proofs.laws.every_answer_was_earned.Goals as goal

pub returns : goal.returns
returns c = λ script events some numbered. all-earned script some numbered events
