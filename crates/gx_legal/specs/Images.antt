-- Whether two values, rows or images are one, as tests.
use Rattle.std.specs.Prelude.{nat_eq, Bool, true, false, List, Some, None}
use Rattle.std.specs.Cmp.Lexicographic.{pointwise}
use Rattle.std.specs.Ordering.{int_eq}
use Rattle.std.specs.declared.option.Option.{Option}
use Rattle.gx_tree.specs.declared.value.Value.{Value}
use Rattle.gx_tree.specs.declared.value.Value.TheVariants.{Int, Text}

abbrev pub is_same_value : Value → Value → Bool
is_same_value (Int m) (Int n) = int_eq m n
is_same_value (Text s) (Text t) = pointwise nat_eq s t
is_same_value (Int m) (Text t) = false
is_same_value (Text s) (Int n) = false

abbrev pub is_same_row : List Value → List Value → Bool
is_same_row row other = pointwise is_same_value row other

abbrev pub is_same_image : Option (List Value) → Option (List Value) → Bool
is_same_image None None = true
is_same_image (Some row) (Some other) = is_same_row row other
is_same_image None (Some other) = false
is_same_image (Some row) None = false
