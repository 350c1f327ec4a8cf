use Rattle.gx_read_trace.proofs.Answering.{SessionSoFar}
use Rattle.gx_read_trace.proofs.answers.add_answers.Given as goal

-- the answers so far, and so many to come
abbrev pub invariant-loop-before : goal.invariant-loop-before
invariant-loop-before l = SessionSoFar l.session l.name l.count l.fn.lines l.fn.answers l.before l.lines l.answers
