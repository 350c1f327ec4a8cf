use Rattle.std.proofs.Common.{inl, Err, ap}
use Rattle.gx_judge.proofs.judging.judge.Goals as goal

pub returns-in-Err-Usage : goal.returns-in-Err-Usage
returns-in-Err-Usage g c = inl (c.in-Err-Usage.ensures.refused (ap Err c.in-Err-Usage.field-0-is))
