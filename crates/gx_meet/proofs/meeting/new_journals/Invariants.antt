use Rattle.std.proofs.Common.{◌≡◌, [], length}
use Rattle.std.specs.Prelude.{All}
use Rattle.gx_meet.proofs.meeting.new_journals.Given as goal

abbrev pub invariant-loop-before : goal.invariant-loop-before
invariant-loop-before l = record {
  count : length l.journals.items ≡ l._before;
  empty : All (λ journal. journal.items ≡ []) l.journals.items;
}
