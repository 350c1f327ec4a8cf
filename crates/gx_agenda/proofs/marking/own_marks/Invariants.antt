use Rattle.std.proofs.Common.{◌≡◌, ◌<◌, ◌≤◌, ◌+◌, ℕ, List, take}
use Rattle.gx_ids.specs.declared.ids.Node.{Node}
use Rattle.gx_ids.specs.declared.ids.SessionId.{SessionId}
use Rattle.gx_script.specs.declared.Line.{Line}
use Rattle.gx_store.specs.Marks.{answer_count}
use Rattle.gx_store.specs.Ordered.{sent_count}
use Rattle.gx_store.specs.Schedule.{asked_by}
use Rattle.gx_store.specs.Waits.{waits_from}
use Rattle.gx_waits.specs.declared.claim.Claim.{Claim}
use Rattle.gx_agenda.specs.Awaited.{AreWaits, IsIndexed}
use Rattle.gx_agenda.specs.Following.{Follows}
use Rattle.gx_agenda.specs.Moves.{AreFew}
use Rattle.gx_agenda.specs.Queued.{AreQueuedBy}
use Rattle.gx_agenda.proofs.TakenSlots.{LeadsOn}
use Rattle.gx_agenda.proofs.marking.own_marks.Given as goal

abbrev pub invariant-loop-mark : goal.invariant-loop-mark
invariant-loop-mark l =
    (l.quiet.from ≡ l.initial.quiet.from)
    × (l.quiet.to ≤ l.initial.quiet.to)
    × ((segment : Node) → 0 < segment.0 → segment.0 ≤ l.quiet.to → sent_count segment (take l.mark-index l.marks) ≡ 0)
    × ((lines : List Line) (started answered : SessionId → ℕ) → AreQueuedBy lines started answered l.initial.queue → AreFew started → AreFew (λ s. answered s + answer_count s l.marks)
    → AreQueuedBy lines started (λ s. answered s + answer_count s (take l.mark-index l.marks)) l.queue)
    × Follows (λ segment g was. asked_by segment g was (take l.mark-index l.marks)) l.initial.asked l.asked
    × ((standing : Node → List Claim) → AreWaits standing l.initial.asked → AreWaits (λ node. waits_from node (standing node) (take l.mark-index l.marks)) l.asked)
    × (IsIndexed l.initial.asked → IsIndexed l.asked)
    × LeadsOn l.marks l.mark-index l.initial.slots l.slots
