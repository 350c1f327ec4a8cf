-- Numbers and values as results.
use Rattle.std.specs.Prelude.{ℤ, Result, Ok, Err, List, ◌++◌}
use Rattle.gx_tree.specs.declared.value.Value.{Value}
use Rattle.gx_tree.specs.declared.value.Value.TheVariants.{Int}
use Rattle.gx_meaning.specs.declared.fault.ArithFault.{ArithFault}

-- a number or its fault, as a value or its fault
abbrev pub as_value : Result ℤ ArithFault → Result Value ArithFault
as_value (Ok number) = Ok (Int number)
as_value (Err fault) = Err fault

-- items behind others, unless there was a fault
abbrev pub onto : {A : Type 0} → List A → Result (List A) ArithFault → Result (List A) ArithFault
onto done (Ok more) = Ok (done ++ more)
onto done (Err fault) = Err fault
