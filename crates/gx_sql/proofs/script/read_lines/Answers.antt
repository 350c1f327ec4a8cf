use Rattle.std.proofs.Common.{◌≡◌, Result, subst}
use Rattle.gx_script.specs.declared.Script.{Script}
use Rattle.gx_sql.specs.declared.refusal.Refusal.{Refusal}
use Rattle.gx_sql.specs.Held.{progress_of}
use Rattle.gx_sql.specs.Lines.{lines_of}
use Rattle.gx_sql.specs.Progress.{Progress, start}
use Rattle.gx_sql.specs.Script.{ReadsOn, ended}
use Rattle.gx_sql.proofs.Steps.{answers_as}
use Rattle.gx_sql.proofs.script.read_lines.Goals as goal

pub returns-in-Ok : goal.returns-in-Ok
returns-in-Ok c =
    answers_as (λ (r : Result Script Refusal). r ≡ ended c.in-Ok.number (progress_of c.add_lines-added.new.progress) c.add_lines-added.new.progress.segments) (ReadsOn 1 start (lines_of c.args.bytes.now)) c.ended.result
    (λ r h. subst (λ (p : Progress). ReadsOn 1 p (lines_of c.args.bytes.now) r) c.new-progress.ensures.said (c.in-Ok.ensures.added r h)) c.ended.ensures
