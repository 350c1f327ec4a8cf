use Rattle.std.proofs.Common.{inl}
use Rattle.gx_sql.specs.Lines.{lines_of}
use Rattle.gx_sql.specs.Progress.{start}
use Rattle.gx_sql.specs.Script.{ReadsOn, Reads}
use Rattle.gx_sql.proofs.Steps.{answers_as}
use Rattle.gx_sql.proofs.Unique.{answered_is}
use Rattle.gx_sql.proofs.Limited.{read-is}
use Rattle.gx_sql.proofs.script.parse_script.Goals as goal

pub returns-in-Ok-clause-only : goal.returns-in-Ok-clause-only
returns-in-Ok-clause-only c r h = answered_is c.args.bytes.now c.read_lines.result r (answers_as (ReadsOn 1 start (lines_of c.args.bytes.now)) (Reads c.args.bytes.now) c.read_lines.result (λ r h. inl (c.in-Ok.ensures.cases.1, h)) c.read_lines.ensures) h

pub returns-in-Ok-clause-language : goal.returns-in-Ok-clause-language
returns-in-Ok-clause-language c = read-is c.args.bytes.now c.read_lines.result c.requires c.in-Ok.ensures.cases.1 c.read_lines.ensures
