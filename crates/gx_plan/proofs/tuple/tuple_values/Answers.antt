use Rattle.std.proofs.Common.{◌≡◌, Err, subst, arith}
use Rattle.std.proofs.lemmas.Grind.{common_steps}
use Rattle.gx_eval.specs.Faults.{eval_fault}
use Rattle.gx_meaning.specs.Constants.{constant}
use Rattle.gx_plan.proofs.Each.{each_from-fault, each_from-push}
use Rattle.gx_plan.proofs.tuple.tuple_values.Goals as goal

pub returns-in_err-constant-clause-fault : goal.returns-in_err-constant-clause-fault
returns-in_err-constant-clause-fault c fault h =
    let i = c.loop-expr.expr-index in
    let was : c.constant.result ≡ Err (eval_fault fault) = grind (arith, common_steps) in
    each_from-fault constant 0 c.args.tuple.now i i c.expr-item.result c.loop-expr.values fault c.loop-expr.invariant c.loop-expr-test.true (omega arith)
    (subst (λ e. constant i e ≡ Err fault) c.expr-item.is (c.constant.ensures.fault fault was))

pub loop-expr-preserved : goal.loop-expr-preserved
loop-expr-preserved c =
    let i = c.loop-expr.expr-index in
    each_from-push constant 0 c.args.tuple.now i i c.expr-item.result c.loop-expr.values c.push.new.self c.in_ok-constant.field-0 c.loop-expr.invariant c.loop-expr-test.true (omega arith) c.expr-item.is c.in_ok-constant.ensures.value c.in_ok-push.ensures.ok
