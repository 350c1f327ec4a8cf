use Rattle.std.proofs.Common.{◌≡◌, ◌++◌, ℕ, drop, map}
use Rattle.std.specs.Prelude.{filter, not}
use Rattle.gx_groups.specs.Table.{is_held_up}
use Rattle.gx_ids.specs.declared.ids.SessionId.{SessionId}
use Rattle.gx_store.specs.declared.event.Event.TheVariants.{Start}
use Rattle.gx_agenda.proofs.letting.push_let.Given as goal

abbrev pub invariant-loop-session : goal.invariant-loop-session
invariant-loop-session l =
    l.events.items ++ map (λ (e : ℕ × SessionId). Start e.1) (filter (λ (e : ℕ × SessionId). not (is_held_up l.slots.groups e.1)) (drop l.session-index l.next))
    ≡ l.initial.events.items ++ map (λ (e : ℕ × SessionId). Start e.1) (filter (λ (e : ℕ × SessionId). not (is_held_up l.slots.groups e.1)) l.next)
