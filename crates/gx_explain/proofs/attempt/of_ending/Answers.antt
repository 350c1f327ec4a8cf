use Rattle.std.proofs.Common.{sym, subst}
use Rattle.gx_sql.specs.Held.{progress_of}
use Rattle.gx_sql.specs.Lines.{lines_of}
use Rattle.gx_explain.specs.declared.attempt.Attempt.{Attempt}
use Rattle.gx_explain.specs.declared.reading.Ending.{Ending}
use Rattle.gx_explain.specs.Reading.{IsEnding}
use Rattle.gx_explain.specs.Top.{IsOfBytes}
use Rattle.gx_explain.proofs.Attempts.{of-line}
use Rattle.gx_explain.proofs.attempt.of_ending.Goals as goal

pub returns-in-Ok-Refused-default : goal.returns-in-Ok-Refused-default
returns-in-Ok-Refused-default c =
    let here = c.in-Ok-Refused-default in
    let before = progress_of c.args.progress.now in
    let now = progress_of c.read_lines.new.progress in
    let tokens = c.read_lines.new.tokens.items in
    let ends = subst (λ (e : Ending). IsEnding before (lines_of c.args.bytes.now) now (lines_of here.rest.now) tokens e) here.field-0-0-is here.ensures.ends in
    subst (λ (a : Attempt). IsOfBytes c.args.bytes.now a) (sym c.refused.ensures)
    (of-line c.args.bytes.now before now (lines_of here.rest.now) tokens here.number here.fault c.line_text.result c.requires.said c.requires.utf8 ends c.line_text.ensures)
