use Rattle.std.proofs.Common.{◌≡◌, ◌+◌, drop, false}
use Rattle.gx_explain.specs.Parts.{before_unknown}
use Rattle.gx_explain.proofs.names.before_unknown.Given as goal

abbrev pub invariant-loop-place : goal.invariant-loop-place
invariant-loop-place l = l.place + before_unknown l.columns l.behind (drop l.place l.tokens) ≡ before_unknown l.columns false l.tokens
