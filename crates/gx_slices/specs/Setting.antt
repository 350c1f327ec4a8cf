-- Rows on which a SET list has a meaning.
use Rattle.std.specs.Prelude.{◌<◌, List, length, IsSome, Some, None}
use Rattle.std.specs.declared.option.Option.{Option}
use Rattle.std.specs.List.{AllByRecursion}
use Rattle.gx_tree.specs.declared.stmt.Assign.{Assign}
use Rattle.gx_tree.specs.declared.value.Value.{Value}
use Rattle.gx_meaning.specs.Kinds.{kind_of, kinds_of}

-- the row has the column, and the expression a value
pub record IsSet (old : List Value) (assign : Assign) : Type 0 where
  pub column : assign.col < length old
  pub kind : IsSome (kind_of (kinds_of old) assign.expr)

abbrev pub AreSettable : List Value → List Assign → Type 0
AreSettable old assigns = AllByRecursion (IsSet old) assigns

abbrev pub IsSettable : List Value → Option (List Assign) → Type 0
IsSettable old None = Unit {0}
IsSettable old (Some assigns) = AreSettable old assigns
