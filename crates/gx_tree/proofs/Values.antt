-- Values that compare as equal are the same.
use Rattle.std.proofs.Common.{◌≡◌, ap}
use Rattle.std.proofs.lemmas.Map.Lookups.{exact_bytes, exact_signed}
use Rattle.std.specs.declared.cmp.Ordering.TheVariants.{Equal}
use Rattle.gx_tree.specs.Value.{value_order}
use Rattle.gx_tree.specs.declared.value.Value.{Value}
use Rattle.gx_tree.specs.declared.value.Value.TheVariants.{Int, Text}

pub same_value : (a b : Value) → value_order a b ≡ Equal → a ≡ b
same_value (Int m) (Int n) e = ap Int (exact_signed m n e)
same_value (Text s) (Text t) e = ap Text (exact_bytes s t e)
same_value (Int m) (Text t) e = cc
same_value (Text s) (Int n) e = cc
