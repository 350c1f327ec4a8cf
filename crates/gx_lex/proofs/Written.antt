-- What is read is written.
use Rattle.std.proofs.Common.{◌≡◌, ◌⊎◌, inl, inr, ℕ, ◌+◌, ◌*◌, ◌-◌, Bool, true, false, ◌||◌, List, [], ◌∷◌, ◌++◌, Option, Some, None, refl, sym, ◌∙◌, ap, subst, arith, append_assoc, append-nil}
use Rattle.std.specs.List.{list_any}
use Rattle.gx_lex.specs.declared.symbol.Symbol.{Symbol}
use Rattle.gx_lex.specs.declared.symbol.Symbol.TheVariants as symbol
use Rattle.gx_lex.specs.declared.token.Token.{Token}
use Rattle.gx_lex.specs.declared.token.Token.TheVariants as token
use Rattle.gx_lex.specs.Symbols.{symbol_of}
use Rattle.gx_lex.specs.Lexing.{is_blank, is_capital, is_letter, is_digit, is_word_byte, is_quote, is_less, is_greater, is_equal, every, Without, small, smalls, doubled, word, digits, text, sign, open_text, stray, begins_nothing, Lexes}
use Rattle.gx_lex.specs.Reader.{State, Gap, InWord, InNumber, InText, Quoted, BehindLess, BehindGreater, Lost, word_token, grown, put_symbol, begin, next, ended, lex_on, lex}
use Rattle.gx_lex.proofs.Tools.{if_false, pick, neither, same_number, number_on, number_is, first_digit, symbol_is}

abbrev TextFrom : List ℕ → List Token → List ℕ → Type 0
TextFrom w ts bs = ((tail : List ℕ) × (rest : List ℕ) × (us : List Token) × Without is_quote rest × (bs ≡ doubled tail ++ 39 ∷ rest) × (ts ≡ token.Text (w ++ tail) ∷ us) × Lexes us rest) ⊎ ((tail : List ℕ) × (bs ≡ doubled tail) × (ts ≡ token.Bad ∷ []))

-- the tokens that the rest of the bytes makes, from a state on
abbrev From : State → List Token → List ℕ → Type 0
From Gap ts bs = Lexes ts bs
From (InWord w c) ts bs = (tail : List ℕ) × (rest : List ℕ) × (us : List Token) × every is_word_byte tail × Without is_word_byte rest × (bs ≡ tail ++ rest) × (ts ≡ word_token (w ++ smalls tail) (c || list_any is_capital tail) ∷ us) × Lexes us rest
From (InNumber n) ts bs = (tail : List ℕ) × (rest : List ℕ) × (us : List Token) × every is_digit tail × Without is_digit rest × (bs ≡ tail ++ rest) × (ts ≡ token.Number (number_on n tail) ∷ us) × Lexes us rest
From (InText w) ts bs = TextFrom w ts bs
From (Quoted w) ts bs = TextFrom w ts (39 ∷ bs)
From BehindLess ts bs = Lexes ts (60 ∷ bs)
From BehindGreater ts bs = Lexes ts (62 ∷ bs)
From Lost ts bs = ts ≡ token.Bad ∷ []

abbrev Read : List Token → State → List ℕ → List Token → Type 0
Read out s bs all = (ts : List Token) × (all ≡ out ++ ts) × From s ts bs

abbrev Goes : List Token → State → List ℕ → ℕ → List Token × State → Type 0
Goes out s bs b x = Read out s (b ∷ bs) (lex_on bs x.0 x.1)

moved : (out : List Token) (s t : State) (bs cs : List ℕ) (all : List Token) → ((ts : List Token) → From t ts bs → From s ts cs) → Read out t bs all → Read out s cs all
moved out s t bs cs all f (ts, e, w) = (ts, e, f ts w)

told : (out : List Token) (x : Token) (s t : State) (bs cs : List ℕ) (all : List Token) → ((ts : List Token) → From t ts bs → From s (x ∷ ts) cs) → Read (out ++ x ∷ []) t bs all → Read out s cs all
told out x s t bs cs all f (ts, e, w) = (x ∷ ts, e ∙ append_assoc out (x ∷ []) ts, f ts w)

blank_front : (b : ℕ) (ts : List Token) (bs : List ℕ) → is_blank b ≡ true → Lexes ts bs → Lexes ts (b ∷ bs)
blank_front b [] bs e w = (e, w)
blank_front b (t ∷ ts) bs e (blanks, x, rest, p, h, k, q, w) = (b ∷ blanks, x, rest, (e, p), h, k, ap (λ (x : List ℕ). b ∷ x) q, w)

letter_from : (b : ℕ) (bs : List ℕ) (ts : List Token) → is_letter b ≡ true → From (InWord (small b ∷ []) (is_capital b)) ts bs → Lexes ts (b ∷ bs)
letter_from b bs ts e (tail, rest, us, p, q, z, k, w) = subst (λ (ts : List Token). Lexes ts (b ∷ bs)) (sym k) ([], word (b ∷ tail), rest, tt, ((e, p), q), refl, ap (λ (x : List ℕ). b ∷ x) z, w)

digit_from : (b : ℕ) (bs : List ℕ) (ts : List Token) → is_digit b ≡ true → From (InNumber (Some (b - 48))) ts bs → Lexes ts (b ∷ bs)
digit_from b bs ts e (tail, rest, us, p, q, z, k, w) = subst (λ (ts : List Token). Lexes ts (b ∷ bs)) (sym k) ([], digits (b ∷ tail), rest, tt, ((e, p), q), ap (λ (x : Option ℕ). token.Number (number_on x tail)) (sym (first_digit b e)) ∙ ap token.Number (number_is (0 * 10 + (b - 48)) tail), ap (λ (x : List ℕ). b ∷ x) z, w)

text_from : (b : ℕ) (bs : List ℕ) (ts : List Token) → is_quote b ≡ true → TextFrom [] ts bs → Lexes ts (b ∷ bs)
text_from b bs ts e (inl (tail, rest, us, q, z, k, w)) = subst (λ (ts : List Token). Lexes ts (b ∷ bs)) (sym k) ([], text tail, rest, tt, q, refl, ap (λ (x : ℕ). x ∷ bs) (same_number b 39 e) ∙ ap (λ (x : List ℕ). 39 ∷ x) (z ∙ sym (append_assoc (doubled tail) (39 ∷ []) rest)), w)
text_from b bs ts e (inr (tail, z, k)) = subst (λ (ts : List Token). Lexes ts (b ∷ bs)) (sym k) ([], open_text tail, [], tt, refl, refl, ap (λ (x : ℕ). x ∷ bs) (same_number b 39 e) ∙ ap (λ (x : List ℕ). 39 ∷ x) (z ∙ sym (append-nil (doubled tail))), tt)

stray_from : (b : ℕ) (bs : List ℕ) (ts : List Token) → begins_nothing b → ts ≡ token.Bad ∷ [] → Lexes ts (b ∷ bs)
stray_from b bs ts n k = subst (λ (ts : List Token). Lexes ts (b ∷ bs)) (sym k) ([], stray b bs, [], tt, (n, refl), refl, ap (λ (x : List ℕ). b ∷ x) (sym (append-nil bs)), tt)

sign_read : (out : List Token) (b : ℕ) (bs : List ℕ) (o : Option Symbol) → symbol_of b ≡ o → (symbol_of b ≡ None → begins_nothing b) → ((o : List Token) (t : State) → Read o t bs (lex_on bs o t)) → Goes out Gap bs b (put_symbol out o)
sign_read out b bs None q n ih = moved out Gap Lost bs (b ∷ bs) (lex_on bs out Lost) (λ ts w. stray_from b bs ts (n q) w) (ih out Lost)
sign_read out b bs (Some s) q n ih =
    let i = symbol_is b s q in
    told out (token.Symbol s) Gap Gap bs (b ∷ bs) (lex_on bs (out ++ token.Symbol s ∷ []) Gap) (λ ts w. ([], sign s, bs, tt, i.1 bs, refl, ap (λ (x : List ℕ). x ++ bs) (sym i.0), w)) (ih (out ++ token.Symbol s ∷ []) Gap)

begin_read : (out : List Token) (b : ℕ) (bs : List ℕ) → ((o : List Token) (t : State) → Read o t bs (lex_on bs o t)) → Goes out Gap bs b (begin out b)
begin_read out b bs ih = pick (λ x. Goes out Gap bs b x) (is_blank b) _ _ (λ e. moved out Gap Gap bs (b ∷ bs) (lex_on bs out Gap) (λ ts w. blank_front b ts bs e w) (ih out Gap))
    (λ blank. pick (λ x. Goes out Gap bs b x) (is_letter b) _ _ (λ e. moved out Gap (InWord (small b ∷ []) (is_capital b)) bs (b ∷ bs) (lex_on bs out (InWord (small b ∷ []) (is_capital b))) (λ ts w. letter_from b bs ts e w) (ih out (InWord (small b ∷ []) (is_capital b))))
    (λ letter. pick (λ x. Goes out Gap bs b x) (is_digit b) _ _ (λ e. moved out Gap (InNumber (Some (b - 48))) bs (b ∷ bs) (lex_on bs out (InNumber (Some (b - 48)))) (λ ts w. digit_from b bs ts e w) (ih out (InNumber (Some (b - 48)))))
    (λ digit. pick (λ x. Goes out Gap bs b x) (is_quote b) _ _ (λ e. moved out Gap (InText []) bs (b ∷ bs) (lex_on bs out (InText [])) (λ ts w. text_from b bs ts e w) (ih out (InText [])))
    (λ quote. pick (λ x. Goes out Gap bs b x) (is_less b) _ _ (λ e. moved out Gap BehindLess bs (b ∷ bs) (lex_on bs out BehindLess) (λ ts w. subst (λ (x : ℕ). Lexes ts (x ∷ bs)) (sym (same_number b 60 e)) w) (ih out BehindLess))
    (λ less. pick (λ x. Goes out Gap bs b x) (is_greater b) _ _ (λ e. moved out Gap BehindGreater bs (b ∷ bs) (lex_on bs out BehindGreater) (λ ts w. subst (λ (x : ℕ). Lexes ts (x ∷ bs)) (sym (same_number b 62 e)) w) (ih out BehindGreater))
    (λ greater. sign_read out b bs (symbol_of b) refl (λ none. (blank, letter, digit, quote, less, greater, none)) ih))))))

text_next : (b : ℕ) (w bs : List ℕ) (ts : List Token) → is_quote b ≡ false → TextFrom (w ++ b ∷ []) ts bs → TextFrom w ts (b ∷ bs)
text_next b w bs ts e (inl (tail, rest, us, q, z, k, h)) = inl (b ∷ tail, rest, us, q, ap (λ (x : List ℕ). b ∷ x) z ∙ ap (λ (x : List ℕ). x ++ 39 ∷ rest) (sym (if_false (is_quote b) (39 ∷ 39 ∷ doubled tail) (b ∷ doubled tail) e)), k ∙ ap (λ (x : List ℕ). token.Text x ∷ us) (append_assoc w (b ∷ []) tail), h)
text_next b w bs ts e (inr (tail, z, k)) = inr (b ∷ tail, ap (λ (x : List ℕ). b ∷ x) z ∙ sym (if_false (is_quote b) (39 ∷ 39 ∷ doubled tail) (b ∷ doubled tail) e), k)

quote_next : (w bs : List ℕ) (ts : List Token) → TextFrom (w ++ 39 ∷ []) ts bs → TextFrom w ts (39 ∷ 39 ∷ bs)
quote_next w bs ts (inl (tail, rest, us, q, z, k, h)) = inl (39 ∷ tail, rest, us, q, ap (λ (x : List ℕ). 39 ∷ 39 ∷ x) z, k ∙ ap (λ (x : List ℕ). token.Text x ∷ us) (append_assoc w (39 ∷ []) tail), h)
quote_next w bs ts (inr (tail, z, k)) = inr (39 ∷ tail, ap (λ (x : List ℕ). 39 ∷ 39 ∷ x) z, k)

or_assoc : (a b c : Bool) → ((a || b) || c) ≡ (a || (b || c))
or_assoc a b c = grind arith

or_false : (a : Bool) → (a || false) ≡ a
or_false a = grind arith

word_next : (b : ℕ) (w bs : List ℕ) (c : Bool) (ts : List Token) → is_word_byte b ≡ true → From (InWord (w ++ small b ∷ []) (c || is_capital b)) ts bs → From (InWord w c) ts (b ∷ bs)
word_next b w bs c ts e (tail, rest, us, p, q, z, k, h) = (
  b ∷ tail,
  rest,
  us,
  (e, p),
  q,
  ap (λ (x : List ℕ). b ∷ x) z,
  k
      ∙ ap (λ (x : List ℕ). word_token x ((c || is_capital b) || list_any is_capital tail) ∷ us) (append_assoc w (small b ∷ []) (smalls tail))
      ∙ ap (λ (x : Bool). word_token (w ++ small b ∷ smalls tail) x ∷ us) (or_assoc c (is_capital b) (list_any is_capital tail)),
  h,
)

word_over : (w bs : List ℕ) (c : Bool) (ts : List Token) → Without is_word_byte bs → Lexes ts bs → From (InWord w c) (word_token w c ∷ ts) bs
word_over w bs c ts e h = ([], bs, ts, tt, e, refl, ap (λ (x : List ℕ). word_token x c ∷ ts) (sym (append-nil w)) ∙ ap (λ (x : Bool). word_token (w ++ []) x ∷ ts) (sym (or_false c)), h)

number_next : (b : ℕ) (n : Option ℕ) (bs : List ℕ) (ts : List Token) → is_digit b ≡ true → From (InNumber (grown n b)) ts bs → From (InNumber n) ts (b ∷ bs)
number_next b n bs ts e (tail, rest, us, p, q, z, k, h) = (b ∷ tail, rest, us, (e, p), q, ap (λ (x : List ℕ). b ∷ x) z, k, h)

number_over : (n : Option ℕ) (bs : List ℕ) (ts : List Token) → Without is_digit bs → Lexes ts bs → From (InNumber n) (token.Number n ∷ ts) bs
number_over n bs ts e h = ([], bs, ts, tt, e, refl, refl, h)

text_over : (w bs : List ℕ) (ts : List Token) → Without is_quote bs → Lexes ts bs → From (Quoted w) (token.Text w ∷ ts) bs
text_over w bs ts e h = inl ([], bs, ts, e, refl, ap (λ (x : List ℕ). token.Text x ∷ ts) (sym (append-nil w)), h)

-- a lexeme ends where a byte begins another
over : (out : List Token) (x : Token) (s : State) (b : ℕ) (bs : List ℕ) → ((ts : List Token) → Lexes ts (b ∷ bs) → From s (x ∷ ts) (b ∷ bs)) → ((o : List Token) (t : State) → Read o t bs (lex_on bs o t)) → Goes out s bs b (begin (out ++ x ∷ []) b)
over out x s b bs f ih = told out x s Gap (b ∷ bs) (b ∷ bs) (lex_on bs (begin (out ++ x ∷ []) b).0 (begin (out ++ x ∷ []) b).1) f (begin_read (out ++ x ∷ []) b bs ih)

-- a sign of two bytes
pair : (out : List Token) (s : Symbol) (t : State) (b c : ℕ) (bs : List ℕ) → b ≡ c → ((ts : List Token) → Lexes ts bs → From t (token.Symbol s ∷ ts) (c ∷ bs)) → ((o : List Token) (t : State) → Read o t bs (lex_on bs o t)) → Goes out t bs b (out ++ token.Symbol s ∷ [], Gap)
pair out s t b c bs e f ih = told out (token.Symbol s) t Gap bs (b ∷ bs) (lex_on bs (out ++ token.Symbol s ∷ []) Gap) (λ ts w. subst (λ (x : ℕ). From t (token.Symbol s ∷ ts) (x ∷ bs)) (sym e) (f ts w)) (ih (out ++ token.Symbol s ∷ []) Gap)

next_read : (out : List Token) (s : State) (b : ℕ) (bs : List ℕ) → ((o : List Token) (t : State) → Read o t bs (lex_on bs o t)) → Goes out s bs b (next out s b)
next_read out Gap b bs ih = begin_read out b bs ih
next_read out (InWord w c) b bs ih = pick (λ x. Goes out (InWord w c) bs b x) (is_word_byte b) _ _
    (λ e. moved out (InWord w c) (InWord (w ++ small b ∷ []) (c || is_capital b)) bs (b ∷ bs) (lex_on bs out (InWord (w ++ small b ∷ []) (c || is_capital b))) (λ ts h. word_next b w bs c ts e h) (ih out (InWord (w ++ small b ∷ []) (c || is_capital b))))
    (λ e. over out (word_token w c) (InWord w c) b bs (λ ts h. word_over w (b ∷ bs) c ts e h) ih)
next_read out (InNumber n) b bs ih = pick (λ x. Goes out (InNumber n) bs b x) (is_digit b) _ _
    (λ e. moved out (InNumber n) (InNumber (grown n b)) bs (b ∷ bs) (lex_on bs out (InNumber (grown n b))) (λ ts h. number_next b n bs ts e h) (ih out (InNumber (grown n b))))
    (λ e. over out (token.Number n) (InNumber n) b bs (λ ts h. number_over n (b ∷ bs) ts e h) ih)
next_read out (InText w) b bs ih = pick (λ x. Goes out (InText w) bs b x) (is_quote b) _ _
    (λ e. moved out (InText w) (Quoted w) bs (b ∷ bs) (lex_on bs out (Quoted w)) (λ ts h. subst (λ (x : ℕ). TextFrom w ts (x ∷ bs)) (sym (same_number b 39 e)) h) (ih out (Quoted w)))
    (λ e. moved out (InText w) (InText (w ++ b ∷ [])) bs (b ∷ bs) (lex_on bs out (InText (w ++ b ∷ []))) (λ ts h. text_next b w bs ts e h) (ih out (InText (w ++ b ∷ []))))
next_read out (Quoted w) b bs ih = pick (λ x. Goes out (Quoted w) bs b x) (is_quote b) _ _
    (λ e. moved out (Quoted w) (InText (w ++ 39 ∷ [])) bs (b ∷ bs) (lex_on bs out (InText (w ++ 39 ∷ []))) (λ ts h. subst (λ (x : ℕ). TextFrom w ts (39 ∷ x ∷ bs)) (sym (same_number b 39 e)) (quote_next w bs ts h)) (ih out (InText (w ++ 39 ∷ []))))
    (λ e. over out (token.Text w) (Quoted w) b bs (λ ts h. text_over w (b ∷ bs) ts e h) ih)
next_read out BehindLess b bs ih = pick (λ x. Goes out BehindLess bs b x) (is_equal b) _ _
    (λ e. pair out symbol.LessEqual BehindLess b 61 bs (same_number b 61 e) (λ ts h. ([], sign symbol.LessEqual, bs, tt, tt, refl, refl, h)) ih)
    (λ e. pick (λ x. Goes out BehindLess bs b x) (is_greater b) _ _
    (λ f. pair out symbol.NotEqual BehindLess b 62 bs (same_number b 62 f) (λ ts h. ([], sign symbol.NotEqual, bs, tt, tt, refl, refl, h)) ih)
    (λ f. over out (token.Symbol symbol.Less) BehindLess b bs (λ ts h. ([], sign symbol.Less, b ∷ bs, tt, neither b e f, refl, refl, h)) ih))
next_read out BehindGreater b bs ih = pick (λ x. Goes out BehindGreater bs b x) (is_equal b) _ _
    (λ e. pair out symbol.GreaterEqual BehindGreater b 61 bs (same_number b 61 e) (λ ts h. ([], sign symbol.GreaterEqual, bs, tt, tt, refl, refl, h)) ih)
    (λ e. over out (token.Symbol symbol.Greater) BehindGreater b bs (λ ts h. ([], sign symbol.Greater, b ∷ bs, tt, e, refl, refl, h)) ih)
next_read out Lost b bs ih = moved out Lost Lost bs (b ∷ bs) (lex_on bs out Lost) (λ ts h. h) (ih out Lost)

end_read : (out : List Token) (s : State) → Read out s [] (ended out s)
end_read out Gap = ([], sym (append-nil out), tt)
end_read out (InWord w c) = (word_token w c ∷ [], refl, word_over w [] c [] tt tt)
end_read out (InNumber n) = (token.Number n ∷ [], refl, number_over n [] [] tt tt)
end_read out (InText w) = (token.Bad ∷ [], refl, inr ([], refl, refl))
end_read out (Quoted w) = (token.Text w ∷ [], refl, text_over w [] [] tt tt)
end_read out BehindLess = (token.Symbol symbol.Less ∷ [], refl, ([], sign symbol.Less, [], tt, tt, refl, refl, tt))
end_read out BehindGreater = (token.Symbol symbol.Greater ∷ [], refl, ([], sign symbol.Greater, [], tt, tt, refl, refl, tt))
end_read out Lost = (token.Bad ∷ [], refl, refl)

read_on : (bs : List ℕ) (out : List Token) (s : State) → Read out s bs (lex_on bs out s)
read_on [] out s = end_read out s
read_on (b ∷ bs) out s = next_read out s b bs (λ o t. read_on bs o t)

-- what is read is cut so
pub lex_sound : (bs : List ℕ) → Lexes (lex bs) bs
lex_sound bs = let (ts, k, h) = read_on bs [] Gap in subst (λ (x : List Token). Lexes x bs) (sym k) h
