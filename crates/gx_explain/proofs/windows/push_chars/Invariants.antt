use Rattle.std.proofs.Common.{◌≡◌, ◌++◌, length}
use Rattle.gx_explain.specs.Windows.{first_chars}
use Rattle.gx_explain.proofs.windows.push_chars.Given as goal

abbrev pub invariant-loop-byte : goal.invariant-loop-byte
invariant-loop-byte l = l.text.items ++ first_chars l.left l.rest ≡ l.initial.text.items ++ first_chars l.count l.bytes

abbrev pub decreases-loop-byte : goal.decreases-loop-byte
decreases-loop-byte l = length l.rest
