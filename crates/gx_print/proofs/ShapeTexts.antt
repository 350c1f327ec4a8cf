-- The texts of a way of writing.
use Rattle.gx_grammar.specs.Grammar.{Shape, digits, minus_digits, text, column, parens, minus, negated, both}
use Rattle.gx_print.specs.OneLine.{IsOneLine}

-- its texts may stand in a line
abbrev pub TextsOne : Shape → Type 0
TextsOne (digits n) = Unit {0}
TextsOne (minus_digits n) = Unit {0}
TextsOne (text t) = IsOneLine t
TextsOne (column c) = Unit {0}
TextsOne (parens s) = TextsOne s
TextsOne (minus s) = TextsOne s
TextsOne (negated s) = TextsOne s
TextsOne (both op a b) = TextsOne a × TextsOne b
