use Rattle.std.proofs.Common.{◌∙◌, ◌++◌, ℕ, ap, subst, sym}
use Rattle.std.specs.Prelude.{filter, not}
use Rattle.gx_groups.specs.Table.{Table, is_held_up}
use Rattle.gx_ids.specs.declared.ids.SessionId.{SessionId}
use Rattle.gx_store.specs.declared.event.Event.TheVariants.{Start}
use Rattle.gx_store.specs.Groups.{lets}
use Rattle.gx_store.specs.Schedule.{starts}
use Rattle.gx_agenda.specs.Slotted.{AreSlots}
use Rattle.gx_agenda.proofs.LetStarts.{all-let, filter-all, filter-mapped}
use Rattle.gx_agenda.proofs.NextLines.{starts-listed}
use Rattle.gx_agenda.proofs.Oks.{on_ok}
use Rattle.gx_agenda.proofs.letting.push_starts.Goals as goal

pub returns-in-Some : goal.returns-in-Some
returns-in-Some c = on_ok c.push_let.result _ _ c.push_let.ensures.all (λ all script steps queued slots.
    let told = subst (AreSlots script steps) c.in-Some.is slots in
    all
    ∙ ap (λ xs. c.args.events.now.items ++ xs) (sym (filter-mapped (lets script steps) (λ (e : ℕ × SessionId). not (is_held_up c.in-Some.slots.groups e.1)) (λ (e : ℕ × SessionId). Start e.1) c.args.queue.now.next (λ e. ap (λ (t : Table). not (is_held_up t e.1)) (sym told.groups)))
    ∙ ap (filter (lets script steps)) (starts-listed script steps c.args.queue.now queued c.push_let.ensures.ordered)))

pub returns-in-None : goal.returns-in-None
returns-in-None c = on_ok c.push_starts.result _ _ c.push_starts.ensures (λ all script steps queued slots.
    let none = subst (AreSlots script steps) c.in-None.is slots in
    all script steps queued ∙ ap (λ xs. c.args.events.now.items ++ xs) (sym (filter-all (lets script steps) (starts script steps) (all-let script steps none))))
