use Rattle.gx_legal.proofs.Oks.{if_ok}
use Rattle.gx_legal.proofs.answers.may_reply.Goals as goal

pub returns : goal.returns
returns c = if_ok c.is_reply.result (λ b h. (λ t. (c.is_next.ensures.0 c.if-not-is_next.false, h.0 t), λ may. h.1 may.1)) c.is_reply.ensures
