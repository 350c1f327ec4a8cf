use Rattle.std.proofs.Common.{subst}
use Rattle.gx_trace_lines.specs.declared.marks.MarkLine.{MarkLine}
use Rattle.gx_read_trace.specs.Rests.{IsReadAs}
use Rattle.gx_read_trace.proofs.Stepping.{mark_of, mark_own}
use Rattle.gx_read_trace.proofs.steps.read_mark.Goals as goal

pub returns-in-Own-clause-read : goal.returns-in-Own-clause-read
returns-in-Own-clause-read c =
    mark_own c.args.script.now c.args.lines.now c.take_mark_line.new.lines c.read_recheck.new.lines c.in-Own.round c.in-Own.edges c.read_recheck.result c.requires
    (subst (λ (m : MarkLine). IsReadAs (mark_of c.args.script.now) c.args.lines.now c.take_mark_line.new.lines m) c.in-Own.is c.in_ok-line.ensures) c.read_recheck.ensures.read
