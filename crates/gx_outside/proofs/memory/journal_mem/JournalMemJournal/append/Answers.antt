use Rattle.std.proofs.Common.{refl, subst}
use Rattle.gx_outside.specs.Memory.{IsFailingNext, JournalState}
use Rattle.gx_outside.proofs.memory.journal_mem.JournalMemJournal.append.Goals as goal

pub returns-then-is_failing-clause-fails : goal.returns-then-is_failing-clause-fails
returns-then-is_failing-clause-fails c =
    (λ _. subst (λ (s : JournalState). IsFailingNext s.calls s.fail) c.self.view_is (rw c.as_slice.ensures.value at (c.if-is_failing.ensures.0 refl)), λ _. refl)
