use Rattle.std.proofs.Common.{◌∙◌, sym}
use Rattle.gx_words.proofs.Readings.{unknown-texts}
use Rattle.gx_words.proofs.words.read_words.Goals as goal

pub returns-else-are_known-clause-refused : goal.returns-else-are_known-clause-refused
returns-else-are_known-clause-refused c = λ said. unknown-texts c.args.words.now (sym c.are_known.ensures ∙ c.if-are_known.false)
