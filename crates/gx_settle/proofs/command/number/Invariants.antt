use Rattle.std.proofs.Common.{◌≡◌, drop}
use Rattle.gx_settle.specs.Commands.{drawn, number_behind}
use Rattle.gx_settle.proofs.command.number.Given as goal

abbrev pub invariant-loop-digit : goal.invariant-loop-digit
invariant-loop-digit l = drawn (number_behind l.number (drop l.digit-index l.digits)) ≡ drawn (number_behind 0 l.digits)
