use Rattle.std.proofs.Common.{◌-◌, ◌+◌, length, sym, ◌∙◌, ap, subst, arith}
use Rattle.gx_trace.specs.Readers.{IsRead, many}
use Rattle.gx_trace.specs.Values.{other_value}
use Rattle.gx_trace.proofs.Many.{onto, many-more, all-read, none-read, rest-left}
use Rattle.gx_trace.proofs.cursor.Cursor.other_values.Goals as goal

pub returns-then-is_at_end : goal.returns-then-is_at_end
returns-then-is_at_end c =
    all-read other_value c.args.values c.args.self.now c.left-most.result.now c.left-most.ensures (length c.left-most.result.now - c.loop-step._step) c.loop-step.values c.loop-step.self c.loop-step.invariant
    (sym c.is_at_end.ensures ∙ c.if-is_at_end.true)

pub returns-in-None : goal.returns-in-None
returns-in-None c =
    none-read other_value c.args.values c.args.self.now c.left-most.result.now c.left-most.ensures c.loop-step._step c.loop-step.values c.loop-step.self c.loop-step.invariant c.loop-step-test.true
    (sym c.is_at_end.ensures ∙ c.if-is_at_end.false) (subst (λ o. IsRead o c.other_value.new.self (other_value c.loop-step.self)) c.in-None.is c.in_ok-value.ensures)

pub loop-step-preserved : goal.loop-step-preserved
loop-step-preserved c =
    let at = c.loop-step._step in
    let most = length c.left-most.result.now in
    ap (λ done. onto other_value done (many (most - (at + 1)) other_value c.other_value.new.self)) c.in_ok-push-in-Some.ensures.ok
    ∙ sym (many-more other_value most at c.loop-step.values c.loop-step.self c.other_value.new.self c.in-Some.value c.loop-step-test.true (sym c.is_at_end.ensures ∙ c.if-is_at_end.false)
    (subst (λ o. IsRead o c.other_value.new.self (other_value c.loop-step.self)) c.in-Some.is c.in_ok-value.ensures))
    ∙ c.loop-step.invariant

pub returns-then-is_at_end-2 : goal.returns-then-is_at_end-2
returns-then-is_at_end-2 c =
    all-read other_value c.args.values c.args.self.now c.left-most.result.now c.left-most.ensures (length c.left-most.result.now - c.loop-step._step) c.loop-step.values c.loop-step.self c.loop-step.invariant
    (sym c.is_at_end-2.ensures ∙ c.if-is_at_end-2.true)

pub returns-else-is_at_end-2 : goal.returns-else-is_at_end-2
returns-else-is_at_end-2 c =
    rest-left other_value c.args.values c.args.self.now c.left-most.result.now c.left-most.ensures (length c.left-most.result.now - c.loop-step._step) c.loop-step.values c.loop-step.self c.loop-step.invariant
    (omega arith) (sym c.is_at_end-2.ensures ∙ c.if-is_at_end-2.false)
