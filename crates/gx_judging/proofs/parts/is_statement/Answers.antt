use Rattle.gx_lemmas.proofs.Tests.{false-true}
use Rattle.gx_legal.proofs.Oks.{if_ok}
use Rattle.gx_legal.proofs.Sessions.{no-longer}
use Rattle.gx_judging.proofs.parts.is_statement.Goals as goal

pub returns-then-not-branch : goal.returns-then-not-branch
returns-then-not-branch c = (λ t. absurd (false-true t), λ legal. absurd (no-longer c.in_ok-is_legal_statement.field-0 c.in_ok-is_legal_statement.ensures c.if-not-branch.true legal.0))

pub returns : goal.returns
returns c = if_ok c.is_done_there.result (λ b h. (λ t. (c.in_ok-is_legal_statement.ensures.0 c.if-not-branch.false, h.0 t), λ legal. h.1 legal.1)) c.is_done_there.ensures
