use Rattle.std.proofs.Common.{◌≡◌, ◌∙◌, ◌&&◌, ◌++◌, ◌∷◌, [], Bool, List, ap, subst, sym}
use Rattle.gx_groups.specs.Table.{Table}
use Rattle.gx_store.specs.declared.mark.Mark.{Mark}
use Rattle.gx_store.specs.declared.opened.Opened.{Opened}
use Rattle.gx_store.specs.Groups.{open_from, open_in, slots_after, slots_through}
use Rattle.gx_store.specs.Marks.{is_answered}
use Rattle.gx_store.specs.Points.{marks_in}
use Rattle.gx_store.specs.Schedule.{sessions_of}
use Rattle.gx_agenda.specs.declared.span.Span.{Span}
use Rattle.gx_agenda.specs.Slotted.{AreOutside, IsSpan, asking_if, beyond_from, is_due, lowest_from, noted}
use Rattle.gx_agenda.proofs.Slotting.{groups-more, open-more, outside-more}
use Rattle.gx_agenda.proofs.slots.Slots.note_answers.Goals as goal

pub returns : goal.returns
returns c = λ steps step was same told taken queued.
    let script = c.args.script.now in
    let queue = c.args.queue.now in
    let marks = c.args.marks.now in
    let outside = c.note_answers.new.outside.items in
    let groups = c.args.self.now.groups in
    let span : IsSpan marks c.args.self.now.answered = record {
      from = taken.from ∙ ap (λ n. lowest_from n marks) told.from;
      past = taken.past ∙ ap (λ n. beyond_from n marks) told.past;
    } in
    let is_outside : AreOutside script (steps ++ step ∷ []) outside =
    subst (AreOutside script (steps ++ step ∷ [])) (ap (noted script.lines queue.standings.items was.outside.items) same ∙ sym (c.note_answers.ensures ∙ ap (λ (os : List Bool). noted script.lines queue.standings.items os marks) taken.outside))
    (outside-more script steps step queue queued was.outside.items told.outside) in
    let is_through : groups ≡ slots_through (open_in (marks_in steps)) (slots_after script steps) step.marks =
    taken.groups
    ∙ ap (λ (b : List Opened). slots_through b was.groups marks) told.begun
    ∙ ap (λ (t : Table). slots_through (open_in (marks_in steps)) t marks) told.groups
    ∙ ap (λ (ms : List Mark). slots_through (open_in (marks_in steps)) (slots_after script steps) ms) (sym same) in
    record {
      groups =
          c.ask_answered.ensures span
          ∙ ap (λ (os : List Bool). asking_if (λ s. is_answered s marks && is_due script.lines queue.standings.items os s) groups (sessions_of script)) c.as_slice.ensures.value
          ∙ ap (λ (ms : List Mark). asking_if (λ s. is_answered s ms && is_due script.lines queue.standings.items outside s) groups (sessions_of script)) (sym same)
          ∙ groups-more script steps step queue queued outside is_outside groups is_through;
      begun = taken.begun ∙ ap (λ (b : List Opened). open_from b marks) told.begun ∙ ap (open_from (open_in (marks_in steps))) (sym same) ∙ sym (open-more steps step);
      outside = is_outside;
      from = ap (λ (s : Span). s.from) c.none-self.ensures;
      past = ap (λ (s : Span). s.past) c.none-self.ensures;
    }
