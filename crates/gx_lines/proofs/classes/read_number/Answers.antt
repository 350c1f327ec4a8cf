use Rattle.std.proofs.Common.{arith, refl}
use Rattle.std.proofs.lemmas.Grind.{common_steps}
use Rattle.gx_lines.proofs.classes.read_number.Goals as goal

pub returns-in-None-number_within : goal.returns-in-None-number_within
returns-in-None-number_within c = (c.args.tokens.now, grind (arith, common_steps), refl)
