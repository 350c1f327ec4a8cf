use Rattle.std.proofs.Common.{◌∙◌, List, ◌++◌, ap}
use Rattle.gx_store.specs.declared.answer.StmtAnswer.{StmtAnswer}
use Rattle.gx_judging.specs.Filled.{answers_of}
use Rattle.gx_judging.proofs.Grouping.{none-at}
use Rattle.gx_judging.proofs.answers.Answers.of.Goals as goal

pub returns : goal.returns
returns c = λ k. c.in_ok-add_all.ensures k ∙ ap (λ (xs : List StmtAnswer). xs ++ answers_of k c.args.answers.now) (none-at _ k c.in_ok-by_session.ensures)
