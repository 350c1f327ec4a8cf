use Rattle.gx_lemmas.proofs.Tests.{false-true}
use Rattle.gx_legal.proofs.Oks.{if_ok}
use Rattle.gx_legal.proofs.Sessions.{no-longer}
use Rattle.gx_judging.proofs.checking.are_statements.Goals as goal

pub returns-then-not-has_answers : goal.returns-then-not-has_answers
returns-then-not-has_answers c = (λ t. absurd (false-true t), λ are. absurd (no-longer c.has_answers.result c.has_answers.ensures c.if-not-has_answers.true are.answers))

pub returns-then-not-branch : goal.returns-then-not-branch
returns-then-not-branch c = (λ t. absurd (false-true t), λ are. absurd (no-longer c.in_ok-has_tables.field-0 c.in_ok-has_tables.ensures c.if-not-branch.true are.tables))

pub returns : goal.returns
returns c =
    if_ok c.are_legal.result
    (λ b h. (λ t. record { statements = h.0 t; answers = c.has_answers.ensures.0 c.if-not-has_answers.false; tables = c.in_ok-has_tables.ensures.0 c.if-not-branch.false }, λ are. h.1 are.statements)) c.are_legal.ensures
