-- A keyword is found among those of its length.
use Rattle.std.proofs.Common.{◌≡◌, ℕ, ◌==◌, nat_eq, Bool, true, false, if◌then◌else◌, List, [], ◌∷◌, filter, length, Some, refl, ◌∙◌, ap, sym, subst, arith}
use Rattle.std.specs.Cmp.Lexicographic.{pointwise}
use Rattle.gx_lex.specs.declared.word.Word.{Word}
use Rattle.gx_lex.specs.Words.{text_of, find, all_words, of_length, keyword_of}

spelled_length : (xs ys : List ℕ) → pointwise nat_eq xs ys ≡ true → (length xs == length ys) ≡ true
spelled_length [] [] e = grind arith
spelled_length [] (y ∷ ys) e = grind arith
spelled_length (x ∷ xs) [] e = grind arith
spelled_length (x ∷ xs) (y ∷ ys) e = grind (arith, spelled_length xs ys)

found_step : (text : List ℕ) (k : Word) (ks fs : List Word) (same long : Bool) → (same ≡ true → long ≡ true) → same ≡ pointwise nat_eq (text_of k) text
    → find text fs ≡ find text ks → find text (if long then k ∷ fs else fs) ≡ (if same then Some k else find text ks)
found_step text k ks fs same true f is e = ap (λ x. if x then Some k else find text fs) (sym is) ∙ ap (λ x. if same then Some k else x) e
found_step text k ks fs true false f is e = grind (arith, f refl)
found_step text k ks fs false false f is e = e

found_in : (text : List ℕ) (ks : List Word) → find text (filter (λ word. length (text_of word) == length text) ks) ≡ find text ks
found_in text [] = refl
found_in text (k ∷ ks) = found_step text k ks (filter (λ word. length (text_of word) == length text) ks) (pointwise nat_eq (text_of k) text) (length (text_of k) == length text)
    (spelled_length (text_of k) text) refl (found_in text ks)

pub found_by_length : (n : ℕ) (text : List ℕ) → length text ≡ n → find text (of_length n) ≡ keyword_of text
found_by_length n text e = subst (λ m. find text (of_length m) ≡ keyword_of text) e (found_in text all_words)
