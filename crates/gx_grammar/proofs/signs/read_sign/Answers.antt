use Rattle.std.proofs.Common.{arith, refl}
use Rattle.std.proofs.lemmas.Grind.{common_steps}
use Rattle.gx_grammar.proofs.signs.read_sign.Goals as goal

pub returns-else-is_sign : goal.returns-else-is_sign
returns-else-is_sign c = (c.args.tokens.now, grind (arith, common_steps), refl)
