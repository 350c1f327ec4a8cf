use Rattle.std.proofs.Common.{◌+◌, ◌≤◌, Result, vec_len}
use Rattle.gx_script.specs.declared.Script.{Script}
use Rattle.gx_sql.specs.declared.refusal.Refusal.{Refusal}
use Rattle.gx_sql.specs.Held.{progress_of, IsHeld}
use Rattle.gx_sql.specs.Lines.{lines_of}
use Rattle.gx_sql.specs.Script.{ReadsOn}
use Rattle.gx_sql.proofs.script.add_lines.Given as goal

-- what the rest is read as behind what was read, the bytes are read as
abbrev pub invariant-loop-number : goal.invariant-loop-number
invariant-loop-number l = IsHeld l.progress × (vec_len l.progress.lines + 1 ≤ l.number) × ((r : Result Script Refusal) → ReadsOn l.number (progress_of l.progress) (lines_of l.rest) r → ReadsOn 1 (progress_of l.initial.progress) (lines_of l.bytes) r)
