use Rattle.std.proofs.Common.{◌∙◌, Bool, List, [], ap, subst, sym}
use Rattle.gx_store.specs.Schedule.{sessions_of}
use Rattle.gx_agenda.specs.declared.span.Span.{Span}
use Rattle.gx_agenda.specs.Slotted.{AreOutside, asking_if, is_due}
use Rattle.gx_agenda.proofs.Slotting.{groups-first, outside-first}
use Rattle.gx_agenda.proofs.slots.Slots.new.Goals as goal

pub returns : goal.returns
returns c =
    let script = c.args.script.now in
    let queue = c.args.queue.now in
    let outside = c.in_ok-outside.outside.items in
    let is_outside : AreOutside script [] outside = subst (AreOutside script []) (sym c.in_ok-outside.ensures) (outside-first script c.len.result c.len.ensures) in
    record {
      groups =
          c.ask_all.ensures
          ∙ ap (λ (os : List Bool). asking_if (is_due script.lines queue.standings.items os) c.in_ok-groups.groups (sessions_of script)) c.as_slice.ensures.value
          ∙ groups-first script queue c.requires.queued outside is_outside c.in_ok-groups.groups c.in_ok-groups.ensures;
      begun = c.new.ensures.items;
      outside = is_outside;
      from = ap (λ (s : Span). s.from) c.none.ensures;
      past = ap (λ (s : Span). s.past) c.none.ensures;
    }
