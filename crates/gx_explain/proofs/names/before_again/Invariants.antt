use Rattle.std.proofs.Common.{◌≡◌, ◌+◌, drop, false}
use Rattle.gx_explain.specs.Parts.{before_repeated}
use Rattle.gx_explain.proofs.names.before_again.Given as goal

abbrev pub invariant-loop-place : goal.invariant-loop-place
invariant-loop-place l = l.place + before_repeated l.assigned l.names.items l.opened (drop l.place l.tokens) ≡ before_repeated l.assigned l.fn.names.items false l.tokens
