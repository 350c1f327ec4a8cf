use Rattle.std.proofs.Common.{length, take}
use Rattle.gx_read_trace.specs.GoingOn.{AreCounts}
use Rattle.gx_read_trace.proofs.answers.line_counts.Given as goal

-- the counts of the lines so far
abbrev pub invariant-loop-line : goal.invariant-loop-line
invariant-loop-line l = AreCounts (length l.script.sessions) (take l.line-index l.script.lines) l.counts.items
