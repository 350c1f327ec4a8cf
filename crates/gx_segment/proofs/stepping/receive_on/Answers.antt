use Rattle.gx_segment.specs.Done.{came}
use Rattle.gx_segment.specs.Steps.{delivered}
use Rattle.gx_segment.proofs.Gone.{HasGone-made}
use Rattle.gx_segment.proofs.stepping.receive_on.Goals as goal

pub returns-clause-gone : goal.returns-clause-gone
returns-clause-gone g c =
    let is = c.in_ok-done.ensures in
    let sent = c.in_ok-send.ensures in
    HasGone-made g.was (delivered c.args.from c.args.number c.args.heard c.args.incarnation c.args.message.now) c.take_message.new.held c.take_message.new.horizon c.take_message.new.report c.args.sent.now c.send.new.sent c.args.clock.now c.clock_behind.result _ _ (came c.take_message.new.marks.items c.in_ok-done.done) c.send.new.marks.items
    is.done is.report is.took c.requires.1.1.1.1.1.1.1.0 c.requires.1.1.1.1.1.1.1.1.0
    c.clock_behind.ensures
    sent.marks sent.sent
