-- What a loop has gathered from a list, with what its next item gives.
use Rattle.std.proofs.Common.{◌≡◌, ◌<◌, ◌+◌, ◌++◌, ◌∷◌, ◌∙◌, ℕ, List, [], Bool, true, false, cond, filter, map, take, length, get_or, sym, ap, append_assoc, append-nil}
use Rattle.std.proofs.lemmas.List.{map_more, map_push}
use Rattle.std.proofs.lemmas.List.Elements.{filter_more}

module _ {X Y : Type 0} (f : X → Y) (xs : List X) (i : ℕ) (x : X) (below : i < length xs) (at : x ≡ get_or xs i x) where
  pub mapped : (old new : List Y) → old ≡ map f (take i xs) → new ≡ old ++ f x ∷ [] → new ≡ map f (take (i + 1) xs)
  mapped old new was pushed = pushed ∙ ap (λ l. l ++ f x ∷ []) was ∙ ap (λ y. map f (take i xs) ++ f y ∷ []) at ∙ sym (map_more f xs i x below)

  pub mapped_behind : (first old new : List Y) → old ≡ first ++ map f (take i xs) → new ≡ old ++ f x ∷ [] → new ≡ first ++ map f (take (i + 1) xs)
  mapped_behind first old new was pushed =
      pushed ∙ ap (λ l. l ++ f x ∷ []) was ∙ append_assoc first (map f (take i xs)) (f x ∷ [])
      ∙ ap (λ y. first ++ (map f (take i xs) ++ f y ∷ [])) at ∙ ap (λ l. first ++ l) (sym (map_more f xs i x below))

module _ {X : Type 0} (p : X → Bool) (xs : List X) (i : ℕ) (x : X) (below : i < length xs) (at : x ≡ get_or xs i x) where
  one_more : (b : Bool) → p x ≡ b → filter p (take i xs) ++ cond b (x ∷ []) [] ≡ filter p (take (i + 1) xs)
  one_more b is =
      ap (λ a. filter p (take i xs) ++ cond a (x ∷ []) []) (sym is) ∙ ap (λ y. filter p (take i xs) ++ cond (p y) (y ∷ []) []) at ∙ sym (filter_more p xs i x below)

  pub kept : p x ≡ true → (old new : List X) → old ≡ filter p (take i xs) → new ≡ old ++ x ∷ [] → new ≡ filter p (take (i + 1) xs)
  kept passes old new was pushed = pushed ∙ ap (λ l. l ++ x ∷ []) was ∙ one_more true passes

  pub kept_mapped : p x ≡ true → {Y : Type 0} (f : X → Y) (old new : List Y) → old ≡ map f (filter p (take i xs)) → new ≡ old ++ f x ∷ [] → new ≡ map f (filter p (take (i + 1) xs))
  kept_mapped passes f old new was pushed =
      pushed ∙ ap (λ l. l ++ f x ∷ []) was ∙ sym (map_push f (filter p (take i xs)) x) ∙ ap (map f) (one_more true passes)

  pub passed_over : p x ≡ false → filter p (take i xs) ≡ filter p (take (i + 1) xs)
  passed_over fails = sym (append-nil (filter p (take i xs))) ∙ one_more false fails
