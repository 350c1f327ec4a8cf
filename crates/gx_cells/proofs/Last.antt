-- The last step of a history.
use Rattle.std.proofs.Common.{◌≡◌, ◌∙◌, ℕ, ◌+◌, List, [], ◌∷◌, ◌++◌, Option, Some, None, ap, arith, length, length-append, refl, sym}
use Rattle.std.specs.Prelude.{◌-◌, slice_get}
use Rattle.gx_lemmas.proofs.Options.{some-same}
use Rattle.gx_store.specs.declared.run.Step.{Step}

behind : (before : List Step) (step : Step) → slice_get (before ++ step ∷ []) (length before) ≡ Some step
behind [] step = refl
behind (s ∷ ss) step = behind ss step

place : (before : List Step) (step : Step) → length (before ++ step ∷ []) - 1 ≡ length before
place before step = down (length (before ++ step ∷ [])) (length before) (length-append before (step ∷ []))
  where
    down : (n k : ℕ) → n ≡ k + 1 → n - 1 ≡ k
    down n k e = omega (arith, e)

found : (steps before : List Step) (step : Step) → steps ≡ before ++ step ∷ [] → slice_get steps (length steps - 1) ≡ Some step
found steps before step is = ap (λ ss. slice_get ss (length ss - 1)) is ∙ ap (slice_get (before ++ step ∷ [])) (place before step) ∙ behind before step

pub last-told : (steps before : List Step) (step last : Step) → steps ≡ before ++ step ∷ [] → slice_get steps (length steps - 1) ≡ Some last → last ≡ step
last-told steps before step last is at = some-same last step (sym at ∙ found steps before step is)

pub none-last : (steps before : List Step) (step : Step) → steps ≡ before ++ step ∷ [] → slice_get steps (length steps - 1) ≡ None → ⊥
none-last steps before step is none = differ (slice_get steps (length steps - 1)) (found steps before step is) none
  where
    differ : (o : Option Step) → o ≡ Some step → o ≡ None → ⊥
    differ o a b = absurd (cc)
