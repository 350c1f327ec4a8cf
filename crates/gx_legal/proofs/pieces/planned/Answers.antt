use Rattle.std.proofs.Common.{Err, ◌≡◌, subst, sym, arith}
use Rattle.std.proofs.lemmas.Grind.{common_steps}
use Rattle.gx_eval.specs.declared.fault.EvalFault.TheVariants as eval
use Rattle.gx_meaning.specs.declared.fault.ArithFault.TheVariants as arithmetic
use Rattle.gx_legal.proofs.Planning.{fault-sent, pieces-sent, plannable}
use Rattle.gx_legal.specs.Done.{AreSent}
use Rattle.gx_legal.proofs.pieces.planned.Goals as goal

pub plan-requires-clause-command : goal.plan-requires-clause-command
plan-requires-clause-command c = plannable c.args.script.now c.requires.script c.args.schema.now c.args.stmt.now c.requires.line c.requires.on c.requires.short

pub returns-in-Ok : goal.returns-in-Ok
returns-in-Ok c = pieces-sent c.args.script.now c.args.command.gxid c.args.command.cid c.args.stmt.now c.args.schema.now _ c.requires.on c.in-Ok.ensures.pieces

pub returns-in-Err-Overflow : goal.returns-in-Err-Overflow
returns-in-Err-Overflow c =
    let k = c.args.command in
    let was : c.plan.result ≡ Err eval.Overflow = grind (arith, common_steps) in
    subst (AreSent c.args.script.now k.gxid k.cid c.args.stmt.now) (sym c.no_pieces.ensures)
    (fault-sent c.args.script.now k.gxid k.cid c.args.stmt.now c.args.schema.now arithmetic.Overflow c.requires.on (c.plan.ensures.fault arithmetic.Overflow was))

pub returns-in-Err-DivisionByZero : goal.returns-in-Err-DivisionByZero
returns-in-Err-DivisionByZero c =
    let k = c.args.command in
    let was : c.plan.result ≡ Err eval.DivisionByZero = grind (arith, common_steps) in
    subst (AreSent c.args.script.now k.gxid k.cid c.args.stmt.now) (sym c.no_pieces-in-Err-DivisionByZero.ensures)
    (fault-sent c.args.script.now k.gxid k.cid c.args.stmt.now c.args.schema.now arithmetic.DivisionByZero c.requires.on (c.plan.ensures.fault arithmetic.DivisionByZero was))
