use Rattle.std.proofs.Common.{◌+◌, ℕ, List, take}
use Rattle.gx_ids.specs.declared.ids.SessionId.{SessionId}
use Rattle.gx_script.specs.declared.Line.{Line}
use Rattle.gx_store.specs.Marks.{answer_count}
use Rattle.gx_agenda.specs.Moves.{AreFew}
use Rattle.gx_agenda.specs.Queued.{AreQueuedBy}
use Rattle.gx_agenda.proofs.TakenSlots.{LeadsOn}
use Rattle.gx_agenda.proofs.lines.note_marks.Given as goal

abbrev pub invariant-loop-mark : goal.invariant-loop-mark
invariant-loop-mark l =
    ((lines : List Line) (started answered : SessionId → ℕ) → AreQueuedBy lines started answered l.initial.queue → AreFew started → AreFew (λ s. answered s + answer_count s l.marks)
    → AreQueuedBy lines started (λ s. answered s + answer_count s (take l.mark-index l.marks)) l.queue)
    × LeadsOn l.marks l.mark-index l.initial.slots l.slots
