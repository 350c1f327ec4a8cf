use Rattle.std.proofs.Common.{codes, sym, ◌∙◌, subst}
use Rattle.gx_trace.specs.Readers.{IsRead}
use Rattle.gx_trace_lines.specs.Choices.{on}
use Rattle.gx_trace_lines.specs.Heads.{counted, deleted_of, inserted_of, refused_head, rows_of, updated_of}
use Rattle.gx_trace_lines.proofs.FirstWords.{fails, on-other}
use Rattle.gx_trace_lines.proofs.heads.statement_head.Goals as goal

pub returns-else-skips-4 : goal.returns-else-skips-4
returns-else-skips-4 c =
    subst (λ f. IsRead c.refused.result c.refused.new.cursor f)
    (sym (on-other (codes "INSERT") (counted inserted_of) (on (codes "UPDATE") (counted updated_of) (on (codes "DELETE") (counted deleted_of) (on (codes "SELECT") (counted rows_of) refused_head))) c.args.cursor.now c.skips.new.cursor (fails c.skips.result c.skips.new.cursor (codes "INSERT") c.args.cursor.now c.if-skips.false c.skips.ensures)
    ∙ on-other (codes "UPDATE") (counted updated_of) (on (codes "DELETE") (counted deleted_of) (on (codes "SELECT") (counted rows_of) refused_head)) c.skips.new.cursor c.skips-else-skips.new.cursor (fails c.skips-else-skips.result c.skips-else-skips.new.cursor (codes "UPDATE") c.skips.new.cursor c.if-skips-2.false c.skips-else-skips.ensures)
    ∙ on-other (codes "DELETE") (counted deleted_of) (on (codes "SELECT") (counted rows_of) refused_head) c.skips-else-skips.new.cursor c.skips-else-skips-2.new.cursor (fails c.skips-else-skips-2.result c.skips-else-skips-2.new.cursor (codes "DELETE") c.skips-else-skips.new.cursor c.if-skips-3.false c.skips-else-skips-2.ensures)
    ∙ on-other (codes "SELECT") (counted rows_of) refused_head c.skips-else-skips-2.new.cursor c.skips-else-skips-3.new.cursor (fails c.skips-else-skips-3.result c.skips-else-skips-3.new.cursor (codes "SELECT") c.skips-else-skips-2.new.cursor c.if-skips-4.false c.skips-else-skips-3.ensures)))
    c.refused.ensures
