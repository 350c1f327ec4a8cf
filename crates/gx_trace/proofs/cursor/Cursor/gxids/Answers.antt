use Rattle.std.proofs.Common.{◌-◌, ◌+◌, length, sym, ◌∙◌, ap}
use Rattle.gx_trace.specs.Fields.{gxid}
use Rattle.gx_trace.specs.Readers.{many}
use Rattle.gx_trace.proofs.Many.{onto, many-more}
use Rattle.gx_trace.proofs.cursor.Cursor.gxids.Goals as goal

pub loop-step-preserved : goal.loop-step-preserved
loop-step-preserved c =
    let at = c.loop-step._step in
    let most = length c.left-most.result.now in
    ap (λ done. onto gxid done (many (most - (at + 1)) gxid c.gxid.new.self)) c.in_ok-push-in-Some.ensures.ok
    ∙ sym (many-more gxid most at c.loop-step.gxids c.loop-step.self c.gxid.new.self c.in-Some.gxid c.loop-step-test.true (sym c.is_at_end.ensures ∙ c.if-is_at_end.false) c.in-Some.ensures)
    ∙ c.loop-step.invariant
