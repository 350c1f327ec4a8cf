use Rattle.std.proofs.Common.{subst}
use Rattle.std.proofs.lemmas.Result.{err_from_is_err_and}
use Rattle.gx_trace_lines.specs.declared.heads.AnswerHead.{AnswerHead}
use Rattle.gx_trace_lines.specs.declared.heads.AnswerHead.TheVariants.{Rows}
use Rattle.gx_read_trace.specs.Rests.{IsReadAs}
use Rattle.gx_read_trace.proofs.Onward.{answer_rows, answer_rows_fail, head_of}
use Rattle.gx_read_trace.proofs.answers.read_answer.Goals as goal

pub returns-in_err-rows-in-Rows : goal.returns-in_err-rows-in-Rows
returns-in_err-rows-in-Rows c =
    let head : IsReadAs (head_of c.args.name.now c.args.number) c.args.lines.now c.take_answer_head.new.lines (Rows c.in-Rows.count)
    = subst (λ (h : AnswerHead). IsReadAs (head_of c.args.name.now c.args.number) c.args.lines.now c.take_answer_head.new.lines h) c.in-Rows.is c.in_ok-head.ensures in
    let p = err_from_is_err_and c.from_residual-in_err-rows-in-Rows.result c.from_residual-in_err-rows-in-Rows.ensures.1 in
    rw (p.1, p.2) (answer_rows_fail c.args.name.now c.args.number c.args.lines.now c.take_answer_head.new.lines c.read_rows.new.lines c.in-Rows.count c.in_err-rows-in-Rows.field-0.0 head c.in_err-rows-in-Rows.ensures)

pub returns-in_ok-rows-in-Rows : goal.returns-in_ok-rows-in-Rows
returns-in_ok-rows-in-Rows c =
    let head : IsReadAs (head_of c.args.name.now c.args.number) c.args.lines.now c.take_answer_head.new.lines (Rows c.in-Rows.count)
    = subst (λ (h : AnswerHead). IsReadAs (head_of c.args.name.now c.args.number) c.args.lines.now c.take_answer_head.new.lines h) c.in-Rows.is c.in_ok-head.ensures in
    answer_rows c.args.name.now c.args.number c.args.lines.now c.take_answer_head.new.lines c.read_rows.new.lines c.in-Rows.count c.in_ok-rows-in-Rows.rows head c.in_ok-rows-in-Rows.ensures
