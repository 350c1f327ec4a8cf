use Rattle.std.proofs.Common.{arith, refl}
use Rattle.std.proofs.lemmas.Grind.{common_steps}
use Rattle.gx_grammar.proofs.signs.read_word.Goals as goal

pub returns-else-is_word : goal.returns-else-is_word
returns-else-is_word c = (c.args.tokens.now, grind (arith, common_steps), refl)
