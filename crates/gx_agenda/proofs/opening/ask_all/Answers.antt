use Rattle.std.proofs.Common.{◌∙◌, ◌<◌, length, subst}
use Rattle.gx_agenda.specs.Slotted.{is_due}
use Rattle.gx_agenda.proofs.Asking.{next-asks}
use Rattle.gx_agenda.proofs.opening.ask_all.Goals as goal

pub loop-number-preserved : goal.loop-number-preserved
loop-number-preserved c =
    next-asks (is_due c.args.script.now.lines c.args.queue.now.standings.items c.args.outside.now) c.loop-number.groups c.ask_where_due.new.groups c.loop-number.number (length c.args.script.now.sessions)
    (subst (λ n. c.loop-number.number < n) c.len-number-end.ensures c.loop-number-test.true) c.ask_where_due.ensures
    ∙ c.loop-number.invariant
