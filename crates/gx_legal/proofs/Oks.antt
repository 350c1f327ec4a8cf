-- What holds of a call's value where there is one, and what a test of each element decides.
use Rattle.std.proofs.Common.{◌↔◌, Bool, IsTrue, List, Ok, Err, All}
use Rattle.std.proofs.lemmas.List.Elements.{All-from_recursion, recursion_from_All}
use Rattle.std.specs.List.{AllByRecursion}
use Rattle.std.specs.Prelude.{IfOk}
use Rattle.std.specs.declared.result.Result.{Result}

pub if_ok : {A E : Type 0} {P Q : A → Type 0} (r : Result A E) → ((a : A) → P a → Q a) → IfOk r P → IfOk r Q
if_ok (Ok a) f p = f a p
if_ok (Err e) f p = tt

pub all-is : {A : Type 0} (P : A → Type 0) (xs : List A) (b : Bool) → IsTrue b ↔ AllByRecursion P xs → IsTrue b ↔ All P xs
all-is P xs b each = (λ t. All-from_recursion P xs (each.0 t), λ all. each.1 (recursion_from_All P xs all))
