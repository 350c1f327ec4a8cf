use Rattle.std.proofs.Common.{◌≡◌, [], length}
use Rattle.std.specs.Prelude.{All}
use Rattle.gx_drive.proofs.empty.empty_journals.Given as goal

abbrev pub invariant-loop-node : goal.invariant-loop-node
invariant-loop-node l = record {
  count : length l.journals.items ≡ l._node;
  empty : All (λ j. j.items ≡ []) l.journals.items;
  sound : All (λ j. j.fail ≡ []) l.journals.items;
}
