use Rattle.gx_read_trace.proofs.Answering.{AnswersSoFar}
use Rattle.gx_read_trace.proofs.answers.read_answers.Given as goal

-- the answers of the sessions so far
abbrev pub invariant-loop-place : goal.invariant-loop-place
invariant-loop-place l = AnswersSoFar l.script l.fn.lines l.place l.lines l.answers
