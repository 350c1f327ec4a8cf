use Rattle.std.proofs.Common.{◌∙◌}
use Rattle.gx_lex.proofs.Runs.{none_spelled}
use Rattle.gx_lex.proofs.word.is_spelled.Goals as goal

pub returns-in-None : goal.returns-in-None
returns-in-None c = none_spelled c.loop-byte.byte-index c.args.word.now c.loop-byte.spelling.now c.loop-byte-test.true c.in-None.ensures.cases ∙ c.loop-byte.invariant
