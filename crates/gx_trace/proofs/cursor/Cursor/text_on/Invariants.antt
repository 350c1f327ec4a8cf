use Rattle.std.proofs.Common.{◌≡◌, false, [], drop}
use Rattle.gx_trace.specs.Values.{text_on}
use Rattle.gx_trace.proofs.cursor.Cursor.text_on.Given as goal

abbrev pub invariant-loop-place : goal.invariant-loop-place
invariant-loop-place l = text_on l.quote l.text.items (drop l.place l.left) ≡ text_on false [] l.left
