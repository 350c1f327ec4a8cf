use Rattle.std.proofs.Common.{codes, sym, ◌∙◌, subst}
use Rattle.gx_trace.specs.Readers.{IsRead}
use Rattle.gx_trace_lines.specs.Choices.{just, on}
use Rattle.gx_store.specs.declared.answer.StmtAnswer.TheVariants as answer
use Rattle.gx_trace_lines.specs.Heads.{statement_head}
use Rattle.gx_trace_lines.specs.declared.heads.AnswerHead.TheVariants.{Said}
use Rattle.gx_trace_lines.proofs.FirstWords.{fails, on-other}
use Rattle.gx_trace_lines.proofs.heads.head.Goals as goal

pub returns-else-skips-4 : goal.returns-else-skips-4
returns-else-skips-4 c =
    subst (λ f. IsRead c.statement_head.result c.statement_head.new.cursor f)
    (sym (on-other (codes "BEGIN") (just (Said answer.Begin)) (on (codes "COMMIT") (just (Said answer.Commit)) (on (codes "ROLLBACK") (just (Said answer.Rollback)) (on (codes "LOCK TABLE") (just (Said answer.Locked)) statement_head))) c.args.cursor.now c.skips.new.cursor (fails c.skips.result c.skips.new.cursor (codes "BEGIN") c.args.cursor.now c.if-skips.false c.skips.ensures)
    ∙ on-other (codes "COMMIT") (just (Said answer.Commit)) (on (codes "ROLLBACK") (just (Said answer.Rollback)) (on (codes "LOCK TABLE") (just (Said answer.Locked)) statement_head)) c.skips.new.cursor c.skips-else-skips.new.cursor (fails c.skips-else-skips.result c.skips-else-skips.new.cursor (codes "COMMIT") c.skips.new.cursor c.if-skips-2.false c.skips-else-skips.ensures)
    ∙ on-other (codes "ROLLBACK") (just (Said answer.Rollback)) (on (codes "LOCK TABLE") (just (Said answer.Locked)) statement_head) c.skips-else-skips.new.cursor c.skips-else-skips-2.new.cursor (fails c.skips-else-skips-2.result c.skips-else-skips-2.new.cursor (codes "ROLLBACK") c.skips-else-skips.new.cursor c.if-skips-3.false c.skips-else-skips-2.ensures)
    ∙ on-other (codes "LOCK TABLE") (just (Said answer.Locked)) statement_head c.skips-else-skips-2.new.cursor c.skips-else-skips-3.new.cursor (fails c.skips-else-skips-3.result c.skips-else-skips-3.new.cursor (codes "LOCK TABLE") c.skips-else-skips-2.new.cursor c.if-skips-4.false c.skips-else-skips-3.ensures)))
    c.statement_head.ensures
