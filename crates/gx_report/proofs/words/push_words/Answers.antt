use Rattle.std.proofs.Common.{rules}
use Rattle.gx_report.specs.Words.{number_text}
use Rattle.gx_report.proofs.Adding.{added-next}
use Rattle.gx_report.proofs.words.push_words.Goals as goal

pub loop-number-preserved : goal.loop-number-preserved
loop-number-preserved c =
    added-next number_text c.args.numbers.now c.loop-number.number-index _ _ _ _ c.loop-number-test.true (search rules) c.loop-number.invariant c.in_ok-push_number.ensures
