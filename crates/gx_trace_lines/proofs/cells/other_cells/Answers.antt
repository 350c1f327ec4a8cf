use Rattle.std.proofs.Common.{◌-◌, ◌+◌, length, sym, ◌∙◌, ap, subst, arith}
use Rattle.gx_trace.specs.Readers.{IsRead, many}
use Rattle.gx_trace_lines.specs.Cells.{other_cell}
use Rattle.gx_trace.proofs.Many.{onto, many-more, all-read, none-read, rest-left}
use Rattle.gx_trace_lines.proofs.cells.other_cells.Goals as goal

pub returns-then-is_at_end : goal.returns-then-is_at_end
returns-then-is_at_end c =
    all-read other_cell c.args.cells c.args.cursor.now c.left-most.result.now c.left-most.ensures (length c.left-most.result.now - c.loop-step._step) c.loop-step.cells c.loop-step.cursor c.loop-step.invariant
    (sym c.is_at_end.ensures ∙ c.if-is_at_end.true)

pub returns-in-None : goal.returns-in-None
returns-in-None c =
    none-read other_cell c.args.cells c.args.cursor.now c.left-most.result.now c.left-most.ensures c.loop-step._step c.loop-step.cells c.loop-step.cursor c.loop-step.invariant c.loop-step-test.true
    (sym c.is_at_end.ensures ∙ c.if-is_at_end.false) (subst (λ o. IsRead o c.other_cell.new.cursor (other_cell c.loop-step.cursor)) c.in-None.is c.in_ok-cell.ensures)

pub loop-step-preserved : goal.loop-step-preserved
loop-step-preserved c =
    let at = c.loop-step._step in
    let most = length c.left-most.result.now in
    ap (λ done. onto other_cell done (many (most - (at + 1)) other_cell c.other_cell.new.cursor)) c.in_ok-push-in-Some.ensures.ok
    ∙ sym (many-more other_cell most at c.loop-step.cells c.loop-step.cursor c.other_cell.new.cursor c.in-Some.cell c.loop-step-test.true (sym c.is_at_end.ensures ∙ c.if-is_at_end.false)
    (subst (λ o. IsRead o c.other_cell.new.cursor (other_cell c.loop-step.cursor)) c.in-Some.is c.in_ok-cell.ensures))
    ∙ c.loop-step.invariant

pub returns-then-is_at_end-2 : goal.returns-then-is_at_end-2
returns-then-is_at_end-2 c =
    all-read other_cell c.args.cells c.args.cursor.now c.left-most.result.now c.left-most.ensures (length c.left-most.result.now - c.loop-step._step) c.loop-step.cells c.loop-step.cursor c.loop-step.invariant
    (sym c.is_at_end-2.ensures ∙ c.if-is_at_end-2.true)

pub returns-else-is_at_end-2 : goal.returns-else-is_at_end-2
returns-else-is_at_end-2 c =
    rest-left other_cell c.args.cells c.args.cursor.now c.left-most.result.now c.left-most.ensures (length c.left-most.result.now - c.loop-step._step) c.loop-step.cells c.loop-step.cursor c.loop-step.invariant
    (omega arith) (sym c.is_at_end-2.ensures ∙ c.if-is_at_end-2.false)
