use Rattle.std.proofs.Common.{ℕ, ◌+◌, ap, ◌∙◌, if◌then◌else◌}
use Rattle.std.specs.Prelude.{nat_lt}
use Rattle.gx_segment.specs.Done.{came}
use Rattle.gx_segment.proofs.Gone.{HasGone-made}
use Rattle.gx_segment.proofs.stepping.step_on.Goals as goal

pub returns-clause-gone : goal.returns-clause-gone
returns-clause-gone g c =
    let is = c.in_ok-done.ensures in
    let sent = c.in_ok-send.ensures in
    let clock = c.args.clock.now in
    HasGone-made g.was c.args.event c.take_event.new.held c.take_event.new.horizon c.take_event.new.report c.args.sent.now c.send.new.sent clock c.clock_behind.result _ _ (came c.take_event.new.marks.items c.in_ok-done.done) c.send.new.marks.items
    is.done is.report is.took c.requires.1.1.1.1.1.1.1.1.0 c.requires.1.1.1.1.1.1.1.1.1.0
    (c.clock_behind.ensures ∙ ap (λ (n : ℕ). (if nat_lt clock n then n else clock) + 1) c.heard.ensures)
    sent.marks sent.sent
