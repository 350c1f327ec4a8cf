-- Texts of items, added one by one behind a text.
use Rattle.std.proofs.Common.{◌≡◌, ℕ, ◌+◌, ◌<◌, List, [], ◌∷◌, ◌++◌, length, map, take, get_or, sym, ap, ◌∙◌}
use Rattle.std.proofs.lemmas.List.{flat_map_more, map-append, take_more}
use Rattle.std.specs.List.{flat_map}

take-next : {X : Type 0} (xs : List X) (i : ℕ) (x : X) → i < length xs → x ≡ get_or xs i x → take i xs ++ x ∷ [] ≡ take (i + 1) xs
take-next xs i x inside is = ap (λ y. take i xs ++ y ∷ []) is ∙ sym (take_more xs i x inside)

pub added-next : {X : Type 0} (f : X → List ℕ) (xs : List X) (i : ℕ) (x : X) (first old new : List ℕ) → i < length xs → x ≡ get_or xs i x → old ≡ first ++ flat_map f (take i xs) → new ≡ old ++ f x → new ≡ first ++ flat_map f (take (i + 1) xs)
added-next f xs i x first old new inside is before added =
    added ∙ ap (λ t. t ++ f x) before ∙ flat_map_more f first (take i xs) x ∙ ap (λ l. first ++ flat_map f l) (take-next xs i x inside is)

pub added_each-next : {X Y : Type 0} (f : Y → List ℕ) (g : X → Y) (xs : List X) (i : ℕ) (x : X) (first old new : List ℕ) → i < length xs → x ≡ get_or xs i x → old ≡ first ++ flat_map f (map g (take i xs)) → new ≡ old ++ f (g x) → new ≡ first ++ flat_map f (map g (take (i + 1) xs))
added_each-next f g xs i x first old new inside is before added =
    added
    ∙ ap (λ t. t ++ f (g x)) before
    ∙ flat_map_more f first (map g (take i xs)) (g x)
    ∙ ap (λ l. first ++ flat_map f l) (sym (map-append g (take i xs) (x ∷ [])) ∙ ap (map g) (take-next xs i x inside is))
