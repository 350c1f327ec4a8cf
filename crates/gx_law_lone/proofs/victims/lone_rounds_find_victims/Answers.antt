use Rattle.gx_law_lone.proofs.FindsVictims.{find-victims}
use Rattle.gx_law_lone.proofs.victims.lone_rounds_find_victims.Goals as goal

pub returns : goal.returns
returns c = λ script lets steps some numbered sessions inserts holds is a. find-victims script some numbered sessions inserts lets holds steps is a
