use Rattle.gx_law_answers.proofs.OneAnswer.{answers-one, system-once, system-one}
use Rattle.gx_law_answers.proofs.laws.a_segment_gives_one_answer_to_a_command.Goals as goal

pub returns-clause-machine : goal.returns-clause-machine
returns-clause-machine c = λ script events some numbered. answers-one script some numbered events

pub returns-clause-system : goal.returns-clause-system
returns-clause-system c = λ script run some numbered system. system-one script some numbered run system

pub returns-clause-told : goal.returns-clause-told
returns-clause-told c = λ script run some numbered system. system-once script some numbered run system
