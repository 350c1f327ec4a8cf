use Rattle.std.proofs.Common.{◌≡◌, drop}
use Rattle.gx_words.specs.Words.{fitting, number_behind}
use Rattle.gx_words.proofs.number.digits.Given as goal

abbrev pub invariant-loop-digit : goal.invariant-loop-digit
invariant-loop-digit l = fitting (number_behind l.number (drop l.digit-index l.digits)) ≡ fitting (number_behind 0 l.digits)
