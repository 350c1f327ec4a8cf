use Rattle.std.proofs.Common.{◌≡◌, [], Err, OnOk, IfOk, sym, subst, arith}
use Rattle.std.proofs.lemmas.Grind.{common_steps}
use Rattle.gx_rules.specs.AtCoordinator.{goes}
use Rattle.gx_coord.specs.Books.{coord_of}
use Rattle.gx_coord.specs.Turns.{IsTurn}
use Rattle.gx_meaning.specs.declared.fault.ArithFault.TheVariants.{DivisionByZero, Overflow}
use Rattle.gx_eval.specs.declared.fault.EvalFault.TheVariants as eval
use Rattle.gx_coord.proofs.dispatch.go.Goals as goal

pub returns-in-Err-Overflow-clause-turn : goal.returns-in-Err-Overflow-clause-turn
returns-in-Err-Overflow-clause-turn c =
    let was : c.args.planned ≡ Err eval.Overflow = grind (arith, common_steps) in
    let e = c.requires.fault Overflow was in
    subst (λ p. OnOk c.fault.result (IsTurn c.args.coord.now c.fault.new.coord c.args.marks.now.items c.fault.new.marks.items (goes c.args.gxid c.args.cid c.args.line.now (record { coord = coord_of c.args.coord.now; snapshot = c.args.snapshot; marks = [] }) p))) (sym e) c.fault.ensures.turn

pub returns-in-Err-Overflow-clause-outs : goal.returns-in-Err-Overflow-clause-outs
returns-in-Err-Overflow-clause-outs c =
    let was : c.args.planned ≡ Err eval.Overflow = grind (arith, common_steps) in
    let e = c.requires.fault Overflow was in
    subst (λ p. IfOk c.fault.result (λ outs. outs ≡ (goes c.args.gxid c.args.cid c.args.line.now (record { coord = coord_of c.args.coord.now; snapshot = c.args.snapshot; marks = [] }) p).outs)) (sym e) c.fault.ensures.outs

pub returns-in-Err-DivisionByZero-clause-turn : goal.returns-in-Err-DivisionByZero-clause-turn
returns-in-Err-DivisionByZero-clause-turn c =
    let was : c.args.planned ≡ Err eval.DivisionByZero = grind (arith, common_steps) in
    let e = c.requires.fault DivisionByZero was in
    subst (λ p. OnOk c.fault-in-Err-DivisionByZero.result (IsTurn c.args.coord.now c.fault-in-Err-DivisionByZero.new.coord c.args.marks.now.items c.fault-in-Err-DivisionByZero.new.marks.items (goes c.args.gxid c.args.cid c.args.line.now (record { coord = coord_of c.args.coord.now; snapshot = c.args.snapshot; marks = [] }) p))) (sym e) c.fault-in-Err-DivisionByZero.ensures.turn

pub returns-in-Err-DivisionByZero-clause-outs : goal.returns-in-Err-DivisionByZero-clause-outs
returns-in-Err-DivisionByZero-clause-outs c =
    let was : c.args.planned ≡ Err eval.DivisionByZero = grind (arith, common_steps) in
    let e = c.requires.fault DivisionByZero was in
    subst (λ p. IfOk c.fault-in-Err-DivisionByZero.result (λ outs. outs ≡ (goes c.args.gxid c.args.cid c.args.line.now (record { coord = coord_of c.args.coord.now; snapshot = c.args.snapshot; marks = [] }) p).outs)) (sym e) c.fault-in-Err-DivisionByZero.ensures.outs
