use Rattle.std.proofs.Common.{codes, sym, ◌∙◌, subst}
use Rattle.std.specs.Prelude.{IfOk}
use Rattle.gx_trace.specs.Readers.{IsRead}
use Rattle.gx_trace_lines.specs.Choices.{on}
use Rattle.gx_trace_lines.specs.Marks.{detector_mark, hold_of, lock, release_of, wait_of}
use Rattle.gx_trace_lines.proofs.FirstWords.{fails, on-other}
use Rattle.gx_trace_lines.proofs.marks.lock_mark.Goals as goal

pub returns-else-skips-3 : goal.returns-else-skips-3
returns-else-skips-3 c =
    subst (λ f. IfOk c.detector_mark.result (λ read. IsRead read c.detector_mark.new.cursor f))
    (sym (on-other (codes "hold") (lock c.args.script.now hold_of) (on (codes "wait") (lock c.args.script.now wait_of) (on (codes "release") (lock c.args.script.now release_of) detector_mark)) c.args.cursor.now c.skips.new.cursor (fails c.skips.result c.skips.new.cursor (codes "hold") c.args.cursor.now c.if-skips.false c.skips.ensures)
    ∙ on-other (codes "wait") (lock c.args.script.now wait_of) (on (codes "release") (lock c.args.script.now release_of) detector_mark) c.skips.new.cursor c.skips-else-skips.new.cursor (fails c.skips-else-skips.result c.skips-else-skips.new.cursor (codes "wait") c.skips.new.cursor c.if-skips-2.false c.skips-else-skips.ensures)
    ∙ on-other (codes "release") (lock c.args.script.now release_of) detector_mark c.skips-else-skips.new.cursor c.skips-else-skips-2.new.cursor (fails c.skips-else-skips-2.result c.skips-else-skips-2.new.cursor (codes "release") c.skips-else-skips.new.cursor c.if-skips-3.false c.skips-else-skips-2.ensures)))
    c.detector_mark.ensures
