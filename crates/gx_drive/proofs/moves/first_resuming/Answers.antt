use Rattle.std.proofs.Common.{◌∙◌, sym}
use Rattle.gx_drive.proofs.Firsts.{first-twice, none-first, some-first}
use Rattle.gx_drive.proofs.moves.first_resuming.Goals as goal

pub returns-in-Some-clause-first : goal.returns-in-Some-clause-first
returns-in-Some-clause-first c = some-first _ _ _ c.in-Some.ensures.first

pub returns-in-None-clause-first : goal.returns-in-None-clause-first
returns-in-None-clause-first c = none-first _ _ _ c.in-None.ensures.first (c.resumption.ensures.first ∙ sym (first-twice _))
