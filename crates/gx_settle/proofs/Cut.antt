-- Bytes that were parted behind their first line.
use Rattle.std.proofs.Common.{◌≡◌, ℕ, List, [], ◌∷◌, length, take, drop, refl, sym, ap, ◌∙◌, arith}
use Rattle.std.specs.List.{prefix_len}
use Rattle.gx_settle.specs.Commands.{is_within, lines_of}
use Rattle.gx_settle.proofs.Lines.{lines_of-first, lines_of-last}

none_left : (xs : List ℕ) → length xs ≡ 0 → xs ≡ []
none_left [] e = refl
none_left (x ∷ xs) e = absurd (omega (arith, e))

some-last : (bytes : List ℕ) → (bytes ≡ [] → ⊥) → drop (prefix_len is_within bytes) bytes ≡ [] → lines_of bytes ≡ take (prefix_len is_within bytes) bytes ∷ []
some-last [] some e = absurd (some refl)
some-last (c ∷ cs) some e = lines_of-last c cs e

module _ (bytes line rest : List ℕ) (n : ℕ) (at : n ≡ prefix_len is_within bytes) (front : line ≡ take n bytes) (back : rest ≡ drop n bytes) where
  pub last-cut : length rest ≡ 0 → (bytes ≡ [] → ⊥) → lines_of bytes ≡ line ∷ lines_of rest
  last-cut e some =
      let none = none_left rest e in
      some-last bytes some (ap (λ (k : ℕ). drop k bytes) (sym at) ∙ sym back ∙ none)
      ∙ ap (λ (k : ℕ). take k bytes ∷ []) (sym at) ∙ ap (λ (t : List ℕ). t ∷ []) (sym front) ∙ ap (λ (t : List ℕ). line ∷ lines_of t) (sym none)

  pub first-cut : (b : ℕ) (more : List ℕ) → rest ≡ b ∷ more → lines_of bytes ≡ line ∷ lines_of more
  first-cut b more e =
      lines_of-first bytes b more (ap (λ (k : ℕ). drop k bytes) (sym at) ∙ sym back ∙ e)
      ∙ ap (λ (k : ℕ). take k bytes ∷ lines_of more) (sym at) ∙ ap (λ (t : List ℕ). t ∷ lines_of more) (sym front)
