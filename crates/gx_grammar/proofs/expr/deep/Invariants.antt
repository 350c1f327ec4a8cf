use Rattle.std.proofs.Common.{◌≡◌, ◌≤◌, take, reverse}
use Rattle.gx_grammar.specs.Machine.{deep, is_minus}
use Rattle.gx_grammar.proofs.expr.deep.Given as goal

abbrev pub invariant-loop-frame : goal.invariant-loop-frame
invariant-loop-frame l = record {
  counted : l.deep ≡ deep (reverse (take l.frame-index l.frames));
  minus : l.behind_minus ≡ is_minus (reverse (take l.frame-index l.frames));
  few : l.deep ≤ l.frame-index;
}
