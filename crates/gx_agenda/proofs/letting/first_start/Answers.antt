use Rattle.std.proofs.Common.{◌∙◌, ℕ, ap, subst, sym}
use Rattle.std.specs.Prelude.{filter, not}
use Rattle.gx_groups.specs.Table.{Table, is_held_up}
use Rattle.gx_ids.specs.declared.ids.SessionId.{SessionId}
use Rattle.gx_store.specs.declared.event.Event.TheVariants.{Start}
use Rattle.gx_store.specs.Groups.{lets}
use Rattle.gx_store.specs.Schedule.{first_of, starts}
use Rattle.gx_agenda.specs.Slotted.{AreSlots}
use Rattle.gx_agenda.proofs.LetStarts.{all-let, filter-all, filter-mapped}
use Rattle.gx_agenda.proofs.NextLines.{starts-listed}
use Rattle.gx_agenda.proofs.letting.first_start.Goals as goal

pub returns-in-Some : goal.returns-in-Some
returns-in-Some c = λ script steps queued slots.
    let told = subst (AreSlots script steps) c.in-Some.is slots in
    c.first_let.ensures.all
    ∙ ap first_of (sym (filter-mapped (lets script steps) (λ (e : ℕ × SessionId). not (is_held_up c.in-Some.slots.groups e.1)) (λ (e : ℕ × SessionId). Start e.1) c.args.queue.now.next (λ e. ap (λ (t : Table). not (is_held_up t e.1)) (sym told.groups)))
    ∙ ap (filter (lets script steps)) (starts-listed script steps c.args.queue.now queued c.first_let.ensures.ordered))

pub returns-in-None : goal.returns-in-None
returns-in-None c = λ script steps queued slots.
    let none = subst (AreSlots script steps) c.in-None.is slots in
    c.first.ensures script steps queued ∙ ap first_of (sym (filter-all (lets script steps) (starts script steps) (all-let script steps none)))
