use Rattle.std.proofs.Common.{sym, ◌∙◌}
use Rattle.gx_legal.proofs.Oks.{if_ok}
use Rattle.gx_legal.proofs.refusals.is_aborted_for.Goals as goal

pub returns : goal.returns
returns c = if_ok c.is_reason.result (λ b h. (λ t. (sym c.is_aborted.ensures ∙ c.if-not-is_aborted.false, h.0 t), λ refused. h.1 refused.1)) c.is_reason.ensures
