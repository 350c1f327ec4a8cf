use Rattle.std.proofs.Common.{◌≡◌, [], length}
use Rattle.std.specs.Prelude.{All}
use Rattle.gx_judge.specs.Refusing.{journals_below}
use Rattle.gx_judge.proofs.journals.journals_for.Given as goal

abbrev pub invariant-loop-node : goal.invariant-loop-node
invariant-loop-node l = record {
  are : l.journals.items ≡ journals_below l.refused l.node;
  count : length l.journals.items ≡ l.node;
  empty : All (λ journal. journal.items ≡ []) l.journals.items;
}
