use Rattle.std.proofs.Common.{codes, sym, ◌∙◌, subst}
use Rattle.std.specs.Prelude.{IfOk}
use Rattle.gx_trace.specs.Readers.{IsRead}
use Rattle.gx_trace_lines.specs.Choices.{on}
use Rattle.gx_trace_lines.specs.Marks.{abort_of, answered, begin, commit_of, end_mark, of_gxid}
use Rattle.gx_trace_lines.proofs.FirstWords.{fails, on-other}
use Rattle.gx_trace_lines.proofs.marks.mark_line.Goals as goal

pub returns-else-skips-4 : goal.returns-else-skips-4
returns-else-skips-4 c =
    subst (λ f. IfOk c.end_mark.result (λ read. IsRead read c.end_mark.new.cursor f))
    (sym (on-other (codes "begin") (begin c.args.script.now) (on (codes "commit") (of_gxid commit_of) (on (codes "abort") (of_gxid abort_of) (on (codes "answer") (answered c.args.script.now) (end_mark c.args.script.now)))) c.args.cursor.now c.skips.new.cursor (fails c.skips.result c.skips.new.cursor (codes "begin") c.args.cursor.now c.if-skips.false c.skips.ensures)
    ∙ on-other (codes "commit") (of_gxid commit_of) (on (codes "abort") (of_gxid abort_of) (on (codes "answer") (answered c.args.script.now) (end_mark c.args.script.now))) c.skips.new.cursor c.skips-else-skips.new.cursor (fails c.skips-else-skips.result c.skips-else-skips.new.cursor (codes "commit") c.skips.new.cursor c.if-skips-2.false c.skips-else-skips.ensures)
    ∙ on-other (codes "abort") (of_gxid abort_of) (on (codes "answer") (answered c.args.script.now) (end_mark c.args.script.now)) c.skips-else-skips.new.cursor c.skips-else-skips-2.new.cursor (fails c.skips-else-skips-2.result c.skips-else-skips-2.new.cursor (codes "abort") c.skips-else-skips.new.cursor c.if-skips-3.false c.skips-else-skips-2.ensures)
    ∙ on-other (codes "answer") (answered c.args.script.now) (end_mark c.args.script.now) c.skips-else-skips-2.new.cursor c.skips-else-skips-3.new.cursor (fails c.skips-else-skips-3.result c.skips-else-skips-3.new.cursor (codes "answer") c.skips-else-skips-2.new.cursor c.if-skips-4.false c.skips-else-skips-3.ensures)))
    c.end_mark.ensures
