use Rattle.std.proofs.Common.{◌∙◌, ap, subst}
use Rattle.std.specs.Option.{option_to_list}
use Rattle.gx_agenda.specs.Awaited.{IsFirstGraph}
use Rattle.gx_agenda.proofs.Resending.{first-asked, first-earlier}
use Rattle.gx_agenda.proofs.asked.Asked.first.Goals as goal

pub returns-in-Some : goal.returns-in-Some
returns-in-Some c = λ script steps asked fit is. c.earlier.ensures ∙ first-earlier script steps fit c.args.self.now asked c.first_key-asked.result c.first_key-asked.ensures.found c.first_key-asked.ensures.least c.first_key-asked.ensures.none c.in-Some.segment (subst (IsFirstGraph script steps) c.in-Some.is is)

pub returns-in-None : goal.returns-in-None
returns-in-None c = λ script steps asked fit is. ap option_to_list c.resend.ensures ∙ first-asked script steps fit c.args.self.now asked c.first_key-asked.result c.first_key-asked.ensures.found c.first_key-asked.ensures.least c.first_key-asked.ensures.none (subst (IsFirstGraph script steps) c.in-None.is is)
