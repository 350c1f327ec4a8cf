use Rattle.std.proofs.Common.{rules, ◌≡◌, ◌&&◌, cond, subst, sym, ◌∙◌}
use Rattle.std.specs.Option.{option_copied}
use Rattle.std.specs.Prelude.{Option, Some, None}
use Rattle.gx_msg.specs.declared.message.Message.{Message}
use Rattle.gx_msg.specs.declared.message.Message.TheVariants as message
use Rattle.gx_store.specs.Journals.{is_same_node}
use Rattle.gx_store.specs.Schedule.{asked_by, is_answer_to}
use Rattle.gx_agenda.proofs.Steps.{made-up}
use Rattle.gx_agenda.proofs.repeating.is_answer_made_up.Goals as goal

pub returns-in-Some-Answer : goal.returns-in-Some-Answer
returns-in-Some-Answer c =
    let is : option_copied c.args.told ≡ Some (message.Answer c.in-Some-Answer.gxid c.in-Some-Answer.field-0-1) = search rules in
    λ anew segment g was.
    subst (λ (o : Option Message). asked_by segment g (cond (is_same_node c.args.from segment && is_answer_to was g o) None was) c.args.marks.now ≡ asked_by segment g was c.args.marks.now) (sym is)
    (made-up c.args.from c.in-Some-Answer.gxid c.in-Some-Answer.field-0-1 c.args.marks.now (sym c.do_ask.ensures ∙ anew) segment g was)
