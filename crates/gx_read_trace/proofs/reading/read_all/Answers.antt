use Rattle.std.proofs.Common.{◌≡◌, [], zero, Some, sym, ◌∙◌, ap}
use Rattle.std.proofs.lemmas.Result.{err_from_is_err_and}
use Rattle.gx_read_trace.specs.GoingOn.{at_steps, at_tables, goes, with_steps}
use Rattle.gx_read_trace.specs.Machine.{start}
use Rattle.gx_read_trace.specs.ReadText.{read_text}
use Rattle.gx_read_trace.specs.Rests.{Rest}
use Rattle.gx_read_trace.proofs.Readings.{end_fails, part_fails}
use Rattle.gx_read_trace.proofs.reading.read_all.Goals as goal

pub returns-in_err-tables : goal.returns-in_err-tables
returns-in_err-tables c =
    let script = c.args.script.now in
    let answers = c.in_ok-answers.answers in
    let led : read_text script c.args.bytes.now ≡ goes script c.read_answers.new.lines (Some (at_tables answers [] script.tables)) = ap (λ (r : Rest). goes script r (Some (start script))) (sym c.new-lines.ensures) ∙ c.in_ok-answers.ensures in
    let p = err_from_is_err_and c.from_residual-in_err-tables.result c.from_residual-in_err-tables.ensures.1 in
    rw (p.1, p.2) (part_fails script c.read_answers.new.lines (at_tables answers [] script.tables) c.read_tables.new.lines (λ tables. at_tables answers tables []) c.in_err-tables.field-0.0 (read_text script c.args.bytes.now) led (c.in_err-tables.ensures answers))

pub returns-in_err-steps : goal.returns-in_err-steps
returns-in_err-steps c =
    let script = c.args.script.now in
    let answers = c.in_ok-answers.answers in
    let tables = c.in_ok-tables.tables in
    let led : read_text script c.args.bytes.now ≡ goes script c.read_tables.new.lines (Some (at_tables answers tables [])) = ap (λ (r : Rest). goes script r (Some (start script))) (sym c.new-lines.ensures) ∙ c.in_ok-answers.ensures ∙ c.in_ok-tables.ensures answers in
    let p = err_from_is_err_and c.from_residual-in_err-steps.result c.from_residual-in_err-steps.ensures.1 in
    rw (p.1, p.2) (part_fails script c.read_tables.new.lines (at_tables answers tables []) c.read_steps.new.lines (λ steps. at_steps (with_steps answers tables steps) zero) c.in_err-steps.field-0.0 (read_text script c.args.bytes.now) led (c.in_err-steps.ensures answers tables))

pub returns-in_err-end : goal.returns-in_err-end
returns-in_err-end c =
    let script = c.args.script.now in
    let answers = c.in_ok-answers.answers in
    let tables = c.in_ok-tables.tables in
    let steps = c.in_ok-steps.steps in
    let led : read_text script c.args.bytes.now ≡ goes script c.read_steps.new.lines (Some (at_steps (with_steps answers tables steps) zero))
    = ap (λ (r : Rest). goes script r (Some (start script))) (sym c.new-lines.ensures) ∙ c.in_ok-answers.ensures ∙ c.in_ok-tables.ensures answers ∙ c.in_ok-steps.ensures answers tables in
    let p = err_from_is_err_and c.from_residual-in_err-end.result c.from_residual-in_err-end.ensures.1 in
    rw (p.1, p.2) (end_fails script (with_steps answers tables steps) c.read_steps.new.lines c.in_err-end.field-0.0 (read_text script c.args.bytes.now) led c.in_err-end.ensures)
