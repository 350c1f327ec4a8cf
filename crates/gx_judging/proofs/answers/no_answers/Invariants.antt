use Rattle.std.proofs.Common.{◌≡◌, [], replicate}
use Rattle.gx_judging.proofs.answers.no_answers.Given as goal

abbrev pub invariant-loop-session : goal.invariant-loop-session
invariant-loop-session l = l.lists.items ≡ replicate l._session []
