use Rattle.std.proofs.Common.{◌∷◌, [], ◌&&◌, ◌∙◌, ap, subst, sym}
use Rattle.std.specs.Prelude.{option_map}
use Rattle.gx_store.specs.Journals.{is_same_node}
use Rattle.gx_store.specs.Schedule.{asked_by, is_about}
use Rattle.gx_agenda.specs.Following.{Follows}
use Rattle.gx_agenda.proofs.Changes.{asked-if}
use Rattle.gx_agenda.specs.Slotted.{is_of_slots}
use Rattle.gx_agenda.proofs.Oks.{always-ok, on_ok}
use Rattle.gx_agenda.specs.Expected.{expected_of}
use Rattle.gx_agenda.proofs.TakenSlots.{gone-untold, told-asks, told-sends, told-waits}
use Rattle.gx_agenda.proofs.Waiting.{of_gxid}
use Rattle.gx_agenda.proofs.marking.own_other.Goals as goal

pub returns-in-Sent-clause-asked : goal.returns-in-Sent-clause-asked
returns-in-Sent-clause-asked c = on_ok c.sent.result _ _ c.sent.ensures.asked
    (λ set. subst (λ m. Follows (λ segment g was. asked_by segment g was (m ∷ [])) c.args.asked.now c.sent.new.self) (sym c.in-Sent.is)
    (λ segment g was e. asked-if (is_same_node c.in-Sent.to segment && is_about g c.in-Sent.message) c.in-Sent.message was _ _ e (set segment g)))

pub returns-in-Sent-clause-slots : goal.returns-in-Sent-clause-slots
returns-in-Sent-clause-slots c = always-ok c.sent.result (gone-untold c.args.mark.now c.requires (ap is_of_slots c.in-Sent.is) c.args.slots.now)

pub returns-then-is_told-clause-none : goal.returns-then-is_told-clause-none
returns-then-is_told-clause-none c = λ segment low high. told-sends c.args.mark.now (sym c.is_told.ensures ∙ c.if-is_told.true) segment

pub returns-then-is_told-clause-asked : goal.returns-then-is_told-clause-asked
returns-then-is_told-clause-asked c = always-ok c.note_told.result (λ segment g was e.
    e ∙ sym (ap (option_map expected_of) (told-asks c.args.mark.now (sym c.is_told.ensures ∙ c.if-is_told.true) segment g was)))

pub returns-then-is_told-clause-waits : goal.returns-then-is_told-clause-waits
returns-then-is_told-clause-waits c = always-ok c.note_told.result (λ standing were node g.
    were node g ∙ sym (ap (of_gxid g) (told-waits c.args.mark.now (sym c.is_told.ensures ∙ c.if-is_told.true) node (standing node))))

pub returns-then-is_passed_over-clause-slots : goal.returns-then-is_passed_over-clause-slots
returns-then-is_passed_over-clause-slots c = gone-untold c.args.mark.now c.requires (sym c.is_told.ensures ∙ c.if-is_told.false) c.args.slots.now

pub returns-else-is_passed_over-clause-slots : goal.returns-else-is_passed_over-clause-slots
returns-else-is_passed_over-clause-slots c = always-ok c.note_wait.result (gone-untold c.args.mark.now c.requires (sym c.is_told.ensures ∙ c.if-is_told.false) c.args.slots.now)
