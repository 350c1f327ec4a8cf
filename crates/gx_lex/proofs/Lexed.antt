-- What is written is read.
use Rattle.std.proofs.Common.{◌≡◌, ℕ, ◌+◌, ◌*◌, ◌-◌, Bool, true, false, ◌||◌, if◌then◌else◌, List, [], ◌∷◌, ◌++◌, Option, Some, refl, sym, ◌∙◌, ap, arith, append_assoc, append-nil}
use Rattle.std.specs.List.{list_any}
use Rattle.gx_lex.specs.declared.symbol.Symbol.{Symbol}
use Rattle.gx_lex.specs.declared.symbol.Symbol.TheVariants as symbol
use Rattle.gx_lex.specs.declared.token.Token.{Token}
use Rattle.gx_lex.specs.declared.token.Token.TheVariants as token
use Rattle.gx_lex.specs.Symbols.{bytes_of_symbol}
use Rattle.gx_lex.specs.Lexing.{is_blank, is_capital, is_letter, is_digit, is_word_byte, is_quote, is_less, is_greater, is_equal, is_either, every, Without, small, smalls, doubled, Lexeme, word, digits, text, sign, open_text, stray, bytes_of, IsLexeme, IsSign, token_of, Lexes}
use Rattle.gx_lex.specs.Reader.{State, Gap, InWord, InNumber, InText, Quoted, BehindLess, BehindGreater, Lost, word_token, grown, put_symbol, next, lex_on, lex}
use Rattle.gx_lex.proofs.Tools.{if_true, if_false, letter_not_blank, digit_not_blank, not_equal, not_greater, same_number, number_on, number_is, first_digit}

pub step : (b : ℕ) (bs : List ℕ) (out o : List Token) (s t : State) → next out s b ≡ (o, t) → lex_on (b ∷ bs) out s ≡ lex_on bs o t
step b bs out o s t e = ap (λ (x : List Token × State). lex_on bs x.0 x.1) e

blanks_pass : (bs rest : List ℕ) (out : List Token) → every is_blank bs → lex_on (bs ++ rest) out Gap ≡ lex_on rest out Gap
blanks_pass [] rest out e = refl
blanks_pass (b ∷ bs) rest out e = step b (bs ++ rest) out out Gap Gap (if_true (is_blank b) _ _ e.0) ∙ blanks_pass bs rest out e.1

or_assoc : (a b c : Bool) → ((a || b) || c) ≡ (a || (b || c))
or_assoc a b c = grind arith

or_false : (a : Bool) → (a || false) ≡ a
or_false a = grind arith

pub word_more : (w acc rest : List ℕ) (c : Bool) (out : List Token) → every is_word_byte w → lex_on (w ++ rest) out (InWord acc c) ≡ lex_on rest out (InWord (acc ++ smalls w) (c || list_any is_capital w))
word_more [] acc rest c out e = ap (λ (x : List ℕ). lex_on rest out (InWord x c)) (sym (append-nil acc)) ∙ ap (λ (x : Bool). lex_on rest out (InWord (acc ++ []) x)) (sym (or_false c))
word_more (b ∷ w) acc rest c out e = step b (w ++ rest) out out (InWord acc c) (InWord (acc ++ small b ∷ []) (c || is_capital b)) (if_true (is_word_byte b) _ _ e.0)
    ∙ word_more w (acc ++ small b ∷ []) rest (c || is_capital b) out e.1
    ∙ ap (λ (x : List ℕ). lex_on rest out (InWord x ((c || is_capital b) || list_any is_capital w))) (append_assoc acc (small b ∷ []) (smalls w))
    ∙ ap (λ (x : Bool). lex_on rest out (InWord (acc ++ smalls (b ∷ w)) x)) (or_assoc c (is_capital b) (list_any is_capital w))

number_more : (w rest : List ℕ) (n : Option ℕ) (out : List Token) → every is_digit w → lex_on (w ++ rest) out (InNumber n) ≡ lex_on rest out (InNumber (number_on n w))
number_more [] rest n out e = refl
number_more (b ∷ w) rest n out e = step b (w ++ rest) out out (InNumber n) (InNumber (grown n b)) (if_true (is_digit b) _ _ e.0) ∙ number_more w rest (grown n b) out e.1

pub word_end : (w rest : List ℕ) (c : Bool) (out : List Token) → Without is_word_byte rest → lex_on rest out (InWord w c) ≡ lex_on rest (out ++ word_token w c ∷ []) Gap
word_end w [] c out e = refl
word_end w (b ∷ rest) c out e = ap (λ (x : List Token × State). lex_on rest x.0 x.1) (if_false (is_word_byte b) _ _ e)

number_end : (n : Option ℕ) (rest : List ℕ) (out : List Token) → Without is_digit rest → lex_on rest out (InNumber n) ≡ lex_on rest (out ++ token.Number n ∷ []) Gap
number_end n [] out e = refl
number_end n (b ∷ rest) out e = ap (λ (x : List Token × State). lex_on rest x.0 x.1) (if_false (is_digit b) _ _ e)

text_end : (w rest : List ℕ) (out : List Token) → Without is_quote rest → lex_on rest out (Quoted w) ≡ lex_on rest (out ++ token.Text w ∷ []) Gap
text_end w [] out e = refl
text_end w (b ∷ rest) out e = ap (λ (x : List Token × State). lex_on rest x.0 x.1) (if_false (is_quote b) _ _ e)

less_end : (rest : List ℕ) (out : List Token) → Without is_either rest → lex_on rest out BehindLess ≡ lex_on rest (out ++ token.Symbol symbol.Less ∷ []) Gap
less_end [] out e = refl
less_end (b ∷ rest) out e = ap (λ (x : List Token × State). lex_on rest x.0 x.1) (if_false (is_equal b) _ _ (not_equal b e) ∙ if_false (is_greater b) _ _ (not_greater b e))

greater_end : (rest : List ℕ) (out : List Token) → Without is_equal rest → lex_on rest out BehindGreater ≡ lex_on rest (out ++ token.Symbol symbol.Greater ∷ []) Gap
greater_end [] out e = refl
greater_end (b ∷ rest) out e = ap (λ (x : List Token × State). lex_on rest x.0 x.1) (if_false (is_equal b) _ _ e)

text_byte : (b : ℕ) (w acc rest : List ℕ) (out : List Token) → ((acc : List ℕ) → lex_on (doubled w ++ rest) out (InText acc) ≡ lex_on rest out (InText (acc ++ w))) → (c : Bool) → is_quote b ≡ c → lex_on ((if c then 39 ∷ 39 ∷ doubled w else b ∷ doubled w) ++ rest) out (InText acc) ≡ lex_on rest out (InText (acc ++ b ∷ w))
text_byte b w acc rest out ih true e = ih (acc ++ 39 ∷ []) ∙ ap (λ (x : List ℕ). lex_on rest out (InText x)) (append_assoc acc (39 ∷ []) w ∙ ap (λ (x : ℕ). acc ++ x ∷ w) (sym (same_number b 39 e)))
text_byte b w acc rest out ih false e = step b (doubled w ++ rest) out out (InText acc) (InText (acc ++ b ∷ [])) (if_false (is_quote b) _ _ e) ∙ ih (acc ++ b ∷ []) ∙ ap (λ (x : List ℕ). lex_on rest out (InText x)) (append_assoc acc (b ∷ []) w)

text_more : (w acc rest : List ℕ) (out : List Token) → lex_on (doubled w ++ rest) out (InText acc) ≡ lex_on rest out (InText (acc ++ w))
text_more [] acc rest out = ap (λ (x : List ℕ). lex_on rest out (InText x)) (sym (append-nil acc))
text_more (b ∷ w) acc rest out = text_byte b w acc rest out (λ acc. text_more w acc rest out) (is_quote b) refl

pub lost_stays : (w : List ℕ) (out : List Token) → lex_on w out Lost ≡ out ++ token.Bad ∷ []
lost_stays [] out = refl
lost_stays (b ∷ w) out = lost_stays w out

one_sign : (s : Symbol) (rest : List ℕ) (out : List Token) → IsSign s rest → lex_on (bytes_of_symbol s ++ rest) out Gap ≡ lex_on rest (out ++ token.Symbol s ∷ []) Gap
one_sign symbol.Open rest out h = refl
one_sign symbol.Close rest out h = refl
one_sign symbol.Star rest out h = refl
one_sign symbol.Comma rest out h = refl
one_sign symbol.Plus rest out h = refl
one_sign symbol.Minus rest out h = refl
one_sign symbol.Slash rest out h = refl
one_sign symbol.Percent rest out h = refl
one_sign symbol.Colon rest out h = refl
one_sign symbol.Semicolon rest out h = refl
one_sign symbol.Equal rest out h = refl
one_sign symbol.NotEqual rest out h = refl
one_sign symbol.Less rest out h = less_end rest out h
one_sign symbol.LessEqual rest out h = refl
one_sign symbol.Greater rest out h = greater_end rest out h
one_sign symbol.GreaterEqual rest out h = refl

one_lexeme : (x : Lexeme) (rest : List ℕ) (out : List Token) → IsLexeme x rest → lex_on (bytes_of x ++ rest) out Gap ≡ lex_on rest (out ++ token_of x ∷ []) Gap
one_lexeme (word []) rest out h = absurd h.0
one_lexeme (word (b ∷ w)) rest out h = step b (w ++ rest) out out Gap (InWord (small b ∷ []) (is_capital b)) (if_false (is_blank b) _ _ (letter_not_blank b h.0.0) ∙ if_true (is_letter b) _ _ h.0.0) ∙ word_more w (small b ∷ []) rest (is_capital b) out h.0.1 ∙ word_end (smalls (b ∷ w)) rest (list_any is_capital (b ∷ w)) out h.1
one_lexeme (digits []) rest out h = absurd h.0
one_lexeme (digits (b ∷ w)) rest out h =
    let d = digit_not_blank b h.0.0 in
    step b (w ++ rest) out out Gap (InNumber (Some (b - 48))) (if_false (is_blank b) _ _ d.0 ∙ if_false (is_letter b) _ _ d.1 ∙ if_true (is_digit b) _ _ h.0.0)
    ∙ number_more w rest (Some (b - 48)) out h.0.1
    ∙ number_end (number_on (Some (b - 48)) w) rest out h.1
    ∙ ap (λ (x : Option ℕ). lex_on rest (out ++ token.Number (number_on x w) ∷ []) Gap) (sym (first_digit b h.0.0))
    ∙ ap (λ (x : Option ℕ). lex_on rest (out ++ token.Number x ∷ []) Gap) (number_is (0 * 10 + (b - 48)) w)
one_lexeme (text t) rest out h = ap (λ (x : List ℕ). lex_on x out (InText [])) (append_assoc (doubled t) (39 ∷ []) rest) ∙ text_more t [] (39 ∷ rest) out ∙ text_end t rest out h
one_lexeme (sign s) rest out h = one_sign s rest out h
one_lexeme (open_text t) rest out h = ap (λ (x : List ℕ). lex_on (doubled t ++ x) out (InText [])) h ∙ text_more t [] [] out ∙ ap (λ (x : List ℕ). lex_on x (out ++ token.Bad ∷ []) Gap) (sym h)
one_lexeme (stray b w) rest out h =
    let (n, r) = h in
    let (blank, letter, digit, quote, less, greater, none) = n in
    step b (w ++ rest) out out Gap Lost (if_false (is_blank b) _ _ blank ∙ if_false (is_letter b) _ _ letter ∙ if_false (is_digit b) _ _ digit ∙ if_false (is_quote b) _ _ quote ∙ if_false (is_less b) _ _ less ∙ if_false (is_greater b) _ _ greater ∙ ap (put_symbol out) none)
    ∙ lost_stays (w ++ rest) out ∙ ap (λ (x : List ℕ). lex_on x (out ++ token.Bad ∷ []) Gap) (sym r)

lexed_on : (ts : List Token) (bs : List ℕ) (out : List Token) → Lexes ts bs → lex_on bs out Gap ≡ out ++ ts
lexed_on [] bs out e = ap (λ (x : List ℕ). lex_on x out Gap) (sym (append-nil bs)) ∙ blanks_pass bs [] out e ∙ sym (append-nil out)
lexed_on (t ∷ ts) bs out (blanks, x, rest, e, h, k, q, w) = ap (λ (x : List ℕ). lex_on x out Gap) q ∙ blanks_pass blanks (bytes_of x ++ rest) out e ∙ one_lexeme x rest out h ∙ lexed_on ts rest (out ++ token_of x ∷ []) w ∙ append_assoc out (token_of x ∷ []) ts ∙ ap (λ (y : Token). out ++ y ∷ ts) (sym k)

-- what is cut so is read so
pub lexed : (ts : List Token) (bs : List ℕ) → Lexes ts bs → lex bs ≡ ts
lexed ts bs w = lexed_on ts bs [] w
