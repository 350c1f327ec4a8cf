use Rattle.std.proofs.Common.{◌≡◌, ◌++◌, ℕ, drop, length}
use Rattle.gx_judging.specs.Answers.{answers_at}
use Rattle.gx_judging.specs.Filled.{answers_of}
use Rattle.gx_judging.proofs.answers.add_all.Given as goal

abbrev pub invariant-loop-number : goal.invariant-loop-number
invariant-loop-number l = record {
  long : 256 ≡ length l.lists.items;
  rest : (k : ℕ) → answers_at l.lists.items k ++ answers_of k (drop l.number l.answers) ≡ answers_at l.initial.lists.items k ++ answers_of k l.answers;
}
