use Rattle.std.specs.Prelude.{ℤ, Result, Ok, Err}
use Rattle.gx_tree.specs.declared.value.Value.{Value}
use Rattle.gx_tree.specs.declared.value.Value.TheVariants.{Int}
use Rattle.gx_meaning.specs.declared.fault.ArithFault.{ArithFault}
use Rattle.gx_meaning.specs.declared.fault.ArithFault.TheVariants as arith
use Rattle.gx_eval.specs.declared.fault.EvalFault.{EvalFault}
use Rattle.gx_eval.specs.declared.fault.EvalFault.TheVariants as eval

-- the fault of the meaning, as an evaluation answers it
abbrev pub eval_fault : ArithFault → EvalFault
eval_fault arith.Overflow = eval.Overflow
eval_fault arith.DivisionByZero = eval.DivisionByZero

-- a number or its fault, as a value or its fault
abbrev pub value_result : Result ℤ ArithFault → Result Value ArithFault
value_result (Ok number) = Ok (Int number)
value_result (Err fault) = Err fault
