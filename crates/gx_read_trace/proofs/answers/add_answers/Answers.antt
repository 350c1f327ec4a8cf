use Rattle.std.proofs.Common.{◌+◌, List, sym, subst, arith}
use Rattle.std.proofs.lemmas.Result.{err_from_is_err_and}
use Rattle.gx_trace.specs.declared.seen.SeenAnswer.{SeenAnswer}
use Rattle.gx_read_trace.proofs.Answering.{SessionSoFar, session_end, session_fails, session_more, session_start}
use Rattle.gx_read_trace.proofs.answers.add_answers.Goals as goal

pub loop-before-init : goal.loop-before-init
loop-before-init c = session_start c.args.session c.args.name.now c.args.count c.args.lines.now c.args.answers.now

pub returns-in_err-answer : goal.returns-in_err-answer
returns-in_err-answer c =
    let p = err_from_is_err_and c.from_residual.result c.from_residual.ensures.1 in
    rw (p.1, p.2) (session_fails c.args.session c.args.name.now c.args.count c.args.lines.now c.args.answers.now c.loop-before.before c.loop-before.lines c.read_answer.new.lines c.loop-before.answers c.loop-before.answers c.in_err-answer.field-0.0
    c.loop-before-test.true c.loop-before.invariant c.in_err-answer.ensures)

pub loop-before-preserved : goal.loop-before-preserved
loop-before-preserved c =
    subst (λ (answers : List SeenAnswer). SessionSoFar c.args.session c.args.name.now c.args.count c.args.lines.now c.args.answers.now (c.loop-before.before + 1) c.read_answer.new.lines answers) (sym c.in_ok-push.ensures.ok)
    (session_more c.args.session c.args.name.now c.args.count c.args.lines.now c.args.answers.now c.loop-before.before c.loop-before.lines c.read_answer.new.lines c.loop-before.answers c.in_ok-answer.answer c.loop-before-test.true c.loop-before.invariant c.in_ok-answer.ensures)

pub returns : goal.returns
returns c =
    let ends = c.loop-before-test.false in
    session_end c.args.session c.args.name.now c.args.count c.args.lines.now c.args.answers.now c.loop-before.before c.loop-before.lines c.loop-before.answers tt (omega (arith, ends)) c.loop-before.invariant
