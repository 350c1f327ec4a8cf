use Rattle.std.proofs.Common.{ap, subst, sym, ◌∙◌}
use Rattle.std.specs.Prelude.{not}
use Rattle.gx_groups.specs.Table.{Table, is_held_up}
use Rattle.gx_agenda.specs.OwnSlots.{AreKept}
use Rattle.gx_agenda.proofs.LetStarts.{nobody-held-up}
use Rattle.gx_agenda.proofs.own_slots.OwnSlots.lets.Goals as goal

pub returns-in-Some : goal.returns-in-Some
returns-in-Some c = λ script steps own.
    let kept = subst (AreKept script steps c.args.self.now) c.in-Some.is own in
    ap not c.is_held_up.ensures ∙ ap (λ (t : Table). not (is_held_up t c.args.session)) kept.0.groups

pub returns-in-None : goal.returns-in-None
returns-in-None c = λ script steps own. sym (ap not (nobody-held-up script steps (subst (AreKept script steps c.args.self.now) c.in-None.is own) c.args.session))
