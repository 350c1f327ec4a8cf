use Rattle.std.proofs.Common.{◌+◌, ◌∙◌, List, ap, drop, sym}
use Rattle.gx_meaning.specs.Constants.{constant, each_from}
use Rattle.gx_tree.specs.declared.value.Value.{Value}
use Rattle.gx_legal.specs.Numbers.{onto}
use Rattle.gx_legal.proofs.Along.{constant-faults, constant-joins}
use Rattle.gx_legal.proofs.setting.push_constants.Goals as goal

pub returns-in-Err : goal.returns-in-Err
returns-in-Err c =
    constant-faults c.loop-expr.values.items c.loop-expr.expr-index c.args.tuple.now c.expr-item.result c.in-Err.fault c.loop-expr-test.true c.expr-item.is c.loop-expr.invariant (sym c.in_ok-value.ensures ∙ c.in-Err.is)

pub loop-expr-preserved : goal.loop-expr-preserved
loop-expr-preserved c =
    let k = c.loop-expr.expr-index in
    ap (λ (items : List Value). onto items (each_from constant (k + 1) (drop (k + 1) c.args.tuple.now))) c.in_ok-push-in-Ok.ensures.items
    ∙ constant-joins c.loop-expr.values.items k c.args.tuple.now c.expr-item.result c.in-Ok.value c.loop-expr-test.true c.expr-item.is c.loop-expr.invariant (sym c.in_ok-value.ensures ∙ c.in-Ok.is)
