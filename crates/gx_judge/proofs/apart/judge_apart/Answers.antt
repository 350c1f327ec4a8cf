use Rattle.std.proofs.Common.{◌∙◌, inl, Err, ap, sym}
use Rattle.gx_judge.proofs.AnsweredApart.{has-seed}
use Rattle.gx_judge.proofs.apart.judge_apart.Goals as goal

pub returns-in-Err-Usage : goal.returns-in-Err-Usage
returns-in-Err-Usage g c = inl (λ options asked. c.in-Err-Usage.ensures.refused (ap Err c.in-Err-Usage.field-0-is) options asked.0)

pub returns-then-is_some : goal.returns-then-is_some
returns-then-is_some g c = inl (λ options asked. has-seed c.in-Ok.options options (sym c.is_some.ensures ∙ c.if-is_some.true) (c.in-Ok.ensures.alone options asked.0) asked.1)
