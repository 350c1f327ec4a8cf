use Rattle.std.proofs.Common.{◌≡◌, ◌-◌, ◌*◌, ◌++◌, length}
use Rattle.gx_work.specs.Text.{batches_text}
use Rattle.gx_work.proofs.batches.push_batches.Given as goal

abbrev pub invariant-loop-batch : goal.invariant-loop-batch
invariant-loop-batch l =
    (length l.left ≡ 24 * (l.count - l._batch)) ×
    (l.text.items ++ batches_text (l.count - l._batch) l.left ≡ l.initial.text.items ++ batches_text l.count l.words)
