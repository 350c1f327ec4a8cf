use Rattle.std.proofs.Common.{sym, ap, ◌∙◌, ◌&&◌}
use Rattle.gx_world.proofs.Receipts.{is_heard_by, receipt}
use Rattle.gx_world.proofs.admitting.can_receive.Goals as goal

pub returns-then-was_sent : goal.returns-then-was_sent
returns-then-was_sent c =
    c.is_heard.ensures
    ∙ ap (λ s. is_heard_by s c.args.from c.args.to) c.deref.ensures
    ∙ sym (receipt c.args.network.now c.requires.is c.requires.usable c.args.from c.args.to c.args.number ∙ ap (λ b. b && is_heard_by c.args.network.now.script.value c.args.from c.args.to) (sym c.was_sent.ensures ∙ c.if-was_sent.true))

pub returns-else-was_sent : goal.returns-else-was_sent
returns-else-was_sent c =
    c.if-was_sent.false
    ∙ sym (receipt c.args.network.now c.requires.is c.requires.usable c.args.from c.args.to c.args.number ∙ ap (λ b. b && is_heard_by c.args.network.now.script.value c.args.from c.args.to) (sym c.was_sent.ensures ∙ c.if-was_sent.false))
