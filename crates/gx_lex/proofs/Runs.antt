-- Runs of bytes of one class.
use Rattle.std.proofs.Common.{◌≡◌, ℕ, zero, suc, ◌+◌, ◌-◌, ◌<◌, ◌≤◌, nat_eq, Bool, true, false, if◌then◌else◌, List, [], ◌∷◌, ◌++◌, refl, sym, ◌∙◌, ap, subst, take, drop, length, arith}
use Rattle.std.proofs.lemmas.List.{take-append-drop, length-drop}
use Rattle.std.specs.List.{prefix_len, list_any}
use Rattle.std.specs.Cmp.Lexicographic.{pointwise}
use Rattle.gx_lex.specs.declared.token.Token.{Token}
use Rattle.gx_lex.specs.Lexing.{is_capital, is_word_byte, every, Without, smalls}
use Rattle.gx_lex.specs.Reader.{Gap, InWord, word_token, lex_on}
use Rattle.gx_lex.proofs.Lexed.{word_more, word_end}

take_more : (n b : ℕ) (bs : List ℕ) → take (1 + n) (b ∷ bs) ≡ b ∷ take n bs
take_more n b bs = grind arith

drop_more : (n b : ℕ) (bs : List ℕ) → drop (1 + n) (b ∷ bs) ≡ drop n bs
drop_more n b bs = grind arith

-- a run and what is behind it
every_first : (p : ℕ → Bool) (bs : List ℕ) → every p (take (prefix_len p bs) bs)
every_first p [] = tt
every_first p (b ∷ bs) = first (p b) refl (every_first p bs) where
  first : (c : Bool) → p b ≡ c → every p (take (prefix_len p bs) bs) → every p (take (if c then 1 + prefix_len p bs else 0) (b ∷ bs))
  first true e more = subst (λ (x : List ℕ). every p x) (sym (take_more (prefix_len p bs) b bs)) (e, more)
  first false e more = tt

without_behind : (p : ℕ → Bool) (bs : List ℕ) → Without p (drop (prefix_len p bs) bs)
without_behind p [] = tt
without_behind p (b ∷ bs) = behind (p b) refl (without_behind p bs) where
  behind : (c : Bool) → p b ≡ c → Without p (drop (prefix_len p bs) bs) → Without p (drop (if c then 1 + prefix_len p bs else 0) (b ∷ bs))
  behind true e more = subst (λ (x : List ℕ). Without p x) (sym (drop_more (prefix_len p bs) b bs)) more
  behind false e more = e

pub shorter : (p : ℕ → Bool) (b : ℕ) (bs : List ℕ) → p b ≡ true → length (drop (prefix_len p (b ∷ bs)) (b ∷ bs)) ≤ length bs
shorter p b bs e = grind (arith, length-drop (prefix_len p bs) bs)

pub small_already : (w : List ℕ) → list_any is_capital w ≡ false → smalls w ≡ w
small_already [] e = refl
small_already (b ∷ w) e = grind (arith, small_already w)

pub word_read : (bs : List ℕ) (out : List Token)
    → lex_on bs out (InWord [] false) ≡ lex_on (drop (prefix_len is_word_byte bs) bs) (out ++ word_token (smalls (take (prefix_len is_word_byte bs) bs)) (list_any is_capital (take (prefix_len is_word_byte bs) bs)) ∷ []) Gap
word_read bs out =
    let n = prefix_len is_word_byte bs in
    ap (λ (x : List ℕ). lex_on x out (InWord [] false)) (sym (take-append-drop n bs))
    ∙ word_more (take n bs) [] (drop n bs) false out (every_first is_word_byte bs)
    ∙ word_end (smalls (take n bs)) (drop n bs) (list_any is_capital (take n bs)) out (without_behind is_word_byte bs)

pub length_smalls : (w : List ℕ) → length (smalls w) ≡ length w
length_smalls [] = refl
length_smalls (b ∷ w) = grind (arith, length_smalls w)

pub none_spelled : (i : ℕ) (w s : List ℕ) → i < length w → length s ≡ 0 → false ≡ pointwise nat_eq s (smalls (drop i w))
none_spelled i w (b ∷ s) h e = absurd cc
none_spelled zero [] [] h e = grind arith
none_spelled (suc i) [] [] h e = grind arith
none_spelled zero (b ∷ w) [] h e = refl
none_spelled (suc i) (b ∷ w) [] h e = none_spelled i w [] (omega arith) e
