-- The first items in an order.
use Rattle.std.specs.Prelude.{if◌then◌else◌, List, [], ◌∷◌}
use Rattle.std.specs.Ordering.{is_gt}
use Rattle.std.specs.declared.cmp.Ordering.{Ordering}

-- x before the first item that is above it
abbrev pub behind : {X : Type 0} → (X → X → Ordering) → X → List X → List X
behind R x [] = x ∷ []
behind R x (y ∷ ys) = if is_gt (R y x) then x ∷ y ∷ ys else y ∷ behind R x ys
