-- The marks of a run up to a point of one of its steps.
use Rattle.std.proofs.Common.{◌≡◌, ◌≤◌, ◌+◌, ◌++◌, ◌∙◌, ℕ, List, length, take, sym, ap, arith}
use Rattle.std.proofs.lemmas.List.{take-take}
use Rattle.std.proofs.Math.Seq.{take-append-add}

pub take-part : {A : Type 0} (xs ys zs : List A) (n m k : ℕ) → n ≡ length ys → take (n + m) xs ≡ ys ++ zs → k ≤ m → take (n + k) xs ≡ ys ++ take k zs
take-part xs ys zs n m k is e inside =
    sym (take-take (n + k) (n + m) xs (omega (arith, inside))) ∙ ap (take (n + k)) e ∙ ap (λ i. take (i + k) (ys ++ zs)) is ∙ take-append-add ys zs k
