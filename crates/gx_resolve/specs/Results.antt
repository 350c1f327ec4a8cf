-- What a stage answers: a value, or the fault of the line.
use Rattle.std.specs.Prelude.{◌≡◌, List, [], ◌∷◌, Result, Ok, Err}
use Rattle.gx_resolve.specs.declared.fault.NameFault.{NameFault}
use Rattle.gx_resolve.specs.declared.fault.ResolveError.{ResolveError}
use Rattle.gx_resolve.specs.declared.fault.ResolveError.TheVariants.{Fault, OutOfMemory}

abbrev pub Answer : Type 0 → Type 0
Answer X = Result X NameFault

infixl 10 ◌>>=◌
abbrev pub ◌>>=◌ : {A B : Type 0} → Answer A → (A → Answer B) → Answer B
(Ok a) >>= f = f a
(Err e) >>= f = Err e

-- what each item gives, in order, or the first fault
abbrev pub each : {A B : Type 0} → (A → Answer B) → List A → Answer (List B)
each f [] = Ok []
each f (x ∷ xs) = do
  y ← f x
  ys ← each f xs
  Ok (y ∷ ys)

-- a result is this answer, unless memory ran out
abbrev pub Says : {X : Type 0} → Result X ResolveError → Answer X → Type 0
Says (Ok x) answer = answer ≡ Ok x
Says (Err (Fault fault)) answer = answer ≡ Err fault
Says (Err OutOfMemory) answer = Unit {0}
