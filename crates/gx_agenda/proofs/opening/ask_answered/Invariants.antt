use Rattle.std.specs.Prelude.{◌≡◌, ◌-◌, ◌&&◌, map}
use Rattle.std.specs.List.{range_with_len}
use Rattle.gx_ids.specs.declared.ids.SessionId.{SessionId}
use Rattle.gx_store.specs.Marks.{is_answered}
use Rattle.gx_store.specs.Schedule.{sessions_of}
use Rattle.gx_agenda.specs.Slotted.{IsSpan, asking_if, is_due}
use Rattle.gx_agenda.proofs.opening.ask_answered.Given as goal

abbrev pub invariant-loop-number : goal.invariant-loop-number
invariant-loop-number l =
    IsSpan l.marks l.fn.answered
    → asking_if (λ s. is_answered s l.marks && is_due l.script.lines l.queue.standings.items l.outside s) l.groups (map (λ n. let s : SessionId = record { 0 = n } in s) (range_with_len l.number (l.past - l.number)))
    ≡ asking_if (λ s. is_answered s l.marks && is_due l.script.lines l.queue.standings.items l.outside s) l.initial.groups (sessions_of l.script)
