use Rattle.std.proofs.Common.{◌≡◌, ◌++◌, ℕ, drop, map}
use Rattle.gx_ids.specs.declared.ids.SessionId.{SessionId}
use Rattle.gx_store.specs.declared.event.Event.TheVariants.{Start}
use Rattle.gx_agenda.proofs.queue.push_sessions.Given as goal

abbrev pub invariant-loop-session : goal.invariant-loop-session
invariant-loop-session l =
    l.events.items ++ map (λ (e : ℕ × SessionId). Start e.1) (drop l.session-index l.next) ≡ l.initial.events.items ++ map (λ (e : ℕ × SessionId). Start e.1) l.next
