-- A sum over a list, item by item.
use Rattle.std.proofs.Common.{◌≡◌, ℕ, ◌+◌, ◌<◌, List, length, get_or, take, sum_by, ap, sym, ◌∙◌}
use Rattle.std.proofs.lemmas.List.Sums.{sum_by_more}

pub sum_by-next : {X : Type 0} (f : X → ℕ) (xs : List X) (i : ℕ) (x : X) (sum added : ℕ) → i < length xs → x ≡ get_or xs i x → sum ≡ sum_by f (take i xs) → added ≡ f x → sum + added ≡ sum_by f (take (i + 1) xs)
sum_by-next f xs i x sum added inside is before more =
    ap (λ s. s + added) before ∙ ap (λ n. sum_by f (take i xs) + n) (more ∙ ap f is) ∙ sym (sum_by_more f xs i x inside)
