use Rattle.gx_lemmas.proofs.Tests.{false-true}
use Rattle.gx_legal.proofs.Oks.{if_ok}
use Rattle.gx_legal.proofs.Sessions.{no-longer}
use Rattle.gx_judging.proofs.parts.may_follow.Goals as goal

pub returns-then-not-may_begin-clause-is : goal.returns-then-not-may_begin-clause-is
returns-then-not-may_begin-clause-is c = (λ t. absurd (false-true t), λ may. absurd (no-longer c.may_begin.result c.may_begin.ensures c.if-not-may_begin.true may.begins))

pub returns-clause-is : goal.returns-clause-is
returns-clause-is c = if_ok c.are_legal_marks.result (λ b h. (λ t. record { begins = c.may_begin.ensures.0 c.if-not-may_begin.false; each = h.0 t }, λ may. h.1 may.each)) c.are_legal_marks.ensures.are
