use Rattle.std.proofs.Common.{◌≡◌, ◌≤◌, ◌+◌, drop}
use Rattle.gx_explain.specs.Parts.{before_part}
use Rattle.gx_explain.proofs.parts.before_part.Given as goal

abbrev pub invariant-loop-token : goal.invariant-loop-token
invariant-loop-token l = record {
  counted : l.place ≡ l.token-index;
  shallow : l.depth ≤ l.token-index;
  rest : l.place + before_part l.parts l.depth (drop l.token-index l.tokens) ≡ before_part l.count 0 l.tokens;
}
