use Rattle.std.proofs.Common.{codes, sym, ◌∙◌, subst}
use Rattle.std.specs.Prelude.{IfOk}
use Rattle.gx_trace.specs.Readers.{IsRead}
use Rattle.gx_trace_lines.specs.Choices.{on}
use Rattle.gx_trace_lines.specs.Marks.{fault, lock_mark, skipped, write}
use Rattle.gx_trace_lines.proofs.FirstWords.{fails, on-other}
use Rattle.gx_trace_lines.proofs.marks.row_mark.Goals as goal

pub returns-else-skips-3 : goal.returns-else-skips-3
returns-else-skips-3 c =
    subst (λ f. IfOk c.lock_mark.result (λ read. IsRead read c.lock_mark.new.cursor f))
    (sym (on-other (codes "write") (write c.args.script.now) (on (codes "skip") skipped (on (codes "fault") fault (lock_mark c.args.script.now))) c.args.cursor.now c.skips.new.cursor (fails c.skips.result c.skips.new.cursor (codes "write") c.args.cursor.now c.if-skips.false c.skips.ensures)
    ∙ on-other (codes "skip") skipped (on (codes "fault") fault (lock_mark c.args.script.now)) c.skips.new.cursor c.skips-else-skips.new.cursor (fails c.skips-else-skips.result c.skips-else-skips.new.cursor (codes "skip") c.skips.new.cursor c.if-skips-2.false c.skips-else-skips.ensures)
    ∙ on-other (codes "fault") fault (lock_mark c.args.script.now) c.skips-else-skips.new.cursor c.skips-else-skips-2.new.cursor (fails c.skips-else-skips-2.result c.skips-else-skips-2.new.cursor (codes "fault") c.skips-else-skips.new.cursor c.if-skips-3.false c.skips-else-skips-2.ensures)))
    c.lock_mark.ensures
