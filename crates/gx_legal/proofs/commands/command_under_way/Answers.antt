use Rattle.gx_legal.proofs.UnderWay.{found-none, found-other, found-some, found-unless}
use Rattle.gx_legal.proofs.Sessions.{no-longer}
use Rattle.gx_legal.proofs.commands.command_under_way.Goals as goal

pub returns-then-is_command_of : goal.returns-then-is_command_of
returns-then-is_command_of c = found-some _ _ _ _ _ _ c.in-Some.ensures (c.is_command_of.ensures.0 c.if-is_command_of.true)

pub returns-else-is_command_of : goal.returns-else-is_command_of
returns-else-is_command_of c = found-other _ _ _ _ _ _ c.in-Some.ensures (no-longer _ c.is_command_of.ensures c.if-is_command_of.false)

pub returns-in_default : goal.returns-in_default
returns-in_default c = found-none _ _ _ _ _ c.in_default.ensures

pub returns-then-not-is_in : goal.returns-then-not-is_in
returns-then-not-is_in c = found-unless _ _ _ _ _ (no-longer _ c.is_in.ensures c.if-not-is_in.true)
