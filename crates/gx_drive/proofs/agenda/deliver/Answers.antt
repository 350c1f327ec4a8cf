use Rattle.std.proofs.Common.{subst, sym, ◌∙◌}
use Rattle.gx_drive.specs.Agrees.{IsDue}
use Rattle.gx_drive.proofs.agenda.deliver.Goals as goal

pub returns-in-Receive : goal.returns-in-Receive
returns-in-Receive c = λ script steps agree due.
    let is = sym c.event.ensures ∙ c.in-Receive.is in
    let d = subst (IsDue script steps) is due in
    c.go_on.ensures script steps c.args.step.now agree d.0 d.1 is
