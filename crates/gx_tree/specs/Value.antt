use Rattle.std.specs.Ordering.{nat_cmp, int_cmp}
use Rattle.std.specs.Cmp.Lexicographic.{slice_cmp}
use Rattle.std.specs.declared.cmp.Ordering.{Ordering}
use Rattle.std.specs.declared.cmp.Ordering.TheVariants.{Less, Greater}
use Rattle.gx_tree.specs.declared.value.Value.{Value}
use Rattle.gx_tree.specs.declared.value.Value.TheVariants.{Int, Text}

-- both are whole numbers, or both are texts
abbrev pub IsSameKind : Value → Value → Type 0
IsSameKind (Int _) (Int _) = Unit {0}
IsSameKind (Text _) (Text _) = Unit {0}
IsSameKind (Int _) (Text _) = ⊥
IsSameKind (Text _) (Int _) = ⊥

-- numbers by value, texts by their bytes; a number stands before a text
abbrev pub value_order : Value → Value → Ordering
value_order (Int m) (Int n) = int_cmp m n
value_order (Text s) (Text t) = slice_cmp nat_cmp s t
value_order (Int _) (Text _) = Less
value_order (Text _) (Int _) = Greater
