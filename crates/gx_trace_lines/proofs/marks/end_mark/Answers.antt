use Rattle.std.proofs.Common.{codes, sym, ◌∙◌, subst}
use Rattle.std.specs.Prelude.{IfOk}
use Rattle.gx_trace.specs.Readers.{IsRead}
use Rattle.gx_trace_lines.specs.Choices.{on}
use Rattle.gx_trace_lines.specs.Marks.{at_node, decided_of, journal_of, local_of, of_gxid, prepared_of, row_mark, sent}
use Rattle.gx_trace_lines.proofs.FirstWords.{fails, on-other}
use Rattle.gx_trace_lines.proofs.marks.end_mark.Goals as goal

pub returns-else-skips-5 : goal.returns-else-skips-5
returns-else-skips-5 c =
    subst (λ f. IfOk c.row_mark.result (λ read. IsRead read c.row_mark.new.cursor f))
    (sym (on-other (codes "decided") (of_gxid decided_of) (on (codes "prepared") (at_node prepared_of) (on (codes "local") (at_node local_of) (on (codes "journal") (at_node journal_of) (on (codes "send") sent (row_mark c.args.script.now))))) c.args.cursor.now c.skips.new.cursor (fails c.skips.result c.skips.new.cursor (codes "decided") c.args.cursor.now c.if-skips.false c.skips.ensures)
    ∙ on-other (codes "prepared") (at_node prepared_of) (on (codes "local") (at_node local_of) (on (codes "journal") (at_node journal_of) (on (codes "send") sent (row_mark c.args.script.now)))) c.skips.new.cursor c.skips-else-skips.new.cursor (fails c.skips-else-skips.result c.skips-else-skips.new.cursor (codes "prepared") c.skips.new.cursor c.if-skips-2.false c.skips-else-skips.ensures)
    ∙ on-other (codes "local") (at_node local_of) (on (codes "journal") (at_node journal_of) (on (codes "send") sent (row_mark c.args.script.now))) c.skips-else-skips.new.cursor c.skips-else-skips-2.new.cursor (fails c.skips-else-skips-2.result c.skips-else-skips-2.new.cursor (codes "local") c.skips-else-skips.new.cursor c.if-skips-3.false c.skips-else-skips-2.ensures)
    ∙ on-other (codes "journal") (at_node journal_of) (on (codes "send") sent (row_mark c.args.script.now)) c.skips-else-skips-2.new.cursor c.skips-else-skips-3.new.cursor (fails c.skips-else-skips-3.result c.skips-else-skips-3.new.cursor (codes "journal") c.skips-else-skips-2.new.cursor c.if-skips-4.false c.skips-else-skips-3.ensures)
    ∙ on-other (codes "send") sent (row_mark c.args.script.now) c.skips-else-skips-3.new.cursor c.skips-else-skips-4.new.cursor (fails c.skips-else-skips-4.result c.skips-else-skips-4.new.cursor (codes "send") c.skips-else-skips-3.new.cursor c.if-skips-5.false c.skips-else-skips-4.ensures)))
    c.row_mark.ensures
