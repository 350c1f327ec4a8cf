use Rattle.std.proofs.Common.{◌-◌, ◌+◌, length, sym, ◌∙◌, ap}
use Rattle.gx_trace.specs.Lists.{edge}
use Rattle.gx_trace.specs.Readers.{many}
use Rattle.gx_trace.proofs.Many.{onto, many-more}
use Rattle.gx_trace.proofs.cursor.Cursor.edges.Goals as goal

pub loop-step-preserved : goal.loop-step-preserved
loop-step-preserved c =
    let at = c.loop-step._step in
    let most = length c.left-most.result.now in
    ap (λ done. onto edge done (many (most - (at + 1)) edge c.edge.new.self)) c.in_ok-push-in-Some.ensures.ok
    ∙ sym (many-more edge most at c.loop-step.edges c.loop-step.self c.edge.new.self c.in-Some.edge c.loop-step-test.true (sym c.is_at_end.ensures ∙ c.if-is_at_end.false) c.in-Some.ensures)
    ∙ c.loop-step.invariant
