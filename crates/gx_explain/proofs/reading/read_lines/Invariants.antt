use Rattle.std.proofs.Common.{◌+◌, ◌≤◌, vec_len}
use Rattle.gx_sql.specs.Held.{progress_of, IsHeld}
use Rattle.gx_sql.specs.Lines.{lines_of}
use Rattle.gx_explain.proofs.Readings.{IsBehind}
use Rattle.gx_explain.proofs.reading.read_lines.Given as goal

abbrev pub invariant-loop-number : goal.invariant-loop-number
invariant-loop-number l = IsHeld l.progress × (vec_len l.progress.lines + 1 ≤ l.number) × IsBehind (progress_of l.fn.progress) (lines_of l.bytes) l.number (progress_of l.progress) (lines_of l.rest)
