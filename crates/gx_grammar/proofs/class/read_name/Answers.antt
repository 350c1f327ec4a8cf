use Rattle.std.proofs.Common.{arith, refl}
use Rattle.std.proofs.lemmas.Grind.{common_steps}
use Rattle.gx_grammar.proofs.class.read_name.Goals as goal

pub returns-in-Isnt : goal.returns-in-Isnt
returns-in-Isnt c = (c.args.tokens.now, grind (arith, common_steps), refl)

pub returns-in-Passes : goal.returns-in-Passes
returns-in-Passes c = (c.args.tokens.now, grind (arith, common_steps), refl)
