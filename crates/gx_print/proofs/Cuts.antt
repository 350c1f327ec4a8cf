-- Bytes that are cut into tokens before whatever begins with a break.
use Rattle.std.proofs.Common.{◌≡◌, ◌⊎◌, inl, inr, ⊎_elim, ℕ, ◌+◌, ◌-◌, ◌*◌, ◌/◌, ◌%◌, ◌<◌, ◌≤◌, ◌^◌, ◌==◌, Bool, true, false, cond, ◌&&◌, ◌||◌, List, [], ◌∷◌, ◌++◌, Option, Some, None, refl, sym, ◌∙◌, ap, subst, arith, append_assoc}
use Rattle.std.specs.Fmt.{decimal}
use Rattle.std.specs.List.{list_any, flat_map}
use Rattle.std.specs.Prelude.{codes}
use Rattle.std.proofs.lemmas.Fmt.{decimal_by_steps}
use Rattle.gx_lex.specs.declared.word.Word.{Word}
use Rattle.gx_lex.specs.declared.symbol.Symbol.{Symbol}
use Rattle.gx_lex.specs.declared.symbol.Symbol.TheVariants as symbol
use Rattle.gx_lex.specs.declared.token.Token.{Token}
use Rattle.gx_lex.specs.declared.token.Token.TheVariants as token
use Rattle.gx_lex.specs.Words.{keyword_of}
use Rattle.gx_lex.specs.Lexing.{is_blank, is_capital, is_letter, is_digit, is_word_byte, is_quote, is_either, is_equal, every, Without, Begins, small, smalls, doubled, number_behind, fitting, Lexeme, word, digits, text, sign, bytes_of, IsLexeme, word_of, token_of, Lexes}
use Rattle.gx_print.specs.Shapes.{is_small_letter, is_name_byte, IsName, IsNumber, number_text}
use Rattle.gx_text.specs.Quoted.{quoted, quoted_byte}

-- each word, number, text and sign ends before it
abbrev pub is_break : ℕ → Bool
is_break b = (b == 32) || ((b == 40) || ((b == 41) || (b == 44)))

abbrev pub Breaks : List ℕ → Type 0
Breaks [] = Unit {0}
Breaks (b ∷ bs) = is_break b ≡ true

pub record Cuts (us : List Token) (bs : List ℕ) : Type 0 where
  pub holds : (ts : List Token) (rest : List ℕ) → Breaks rest → Lexes ts rest → Lexes (us ++ ts) (bs ++ rest)

-- besides, they are none or begin with a break themselves
pub record Follows (us : List Token) (bs : List ℕ) : Type 0 where
  pub breaks : (rest : List ℕ) → Breaks rest → Breaks (bs ++ rest)
  pub holds : (ts : List Token) (rest : List ℕ) → Breaks rest → Lexes ts rest → Lexes (us ++ ts) (bs ++ rest)

-- JOINING
regroup : (us vs ts : List Token) (bs cs rest : List ℕ) → Lexes (us ++ (vs ++ ts)) (bs ++ (cs ++ rest)) → Lexes ((us ++ vs) ++ ts) ((bs ++ cs) ++ rest)
regroup us vs ts bs cs rest w = subst (λ (x : List Token). Lexes x ((bs ++ cs) ++ rest)) (sym (append_assoc us vs ts)) (subst (λ (y : List ℕ). Lexes (us ++ (vs ++ ts)) y) (sym (append_assoc bs cs rest)) w)

pub behind : {us vs : List Token} {bs cs : List ℕ} → Cuts us bs → Follows vs cs → Cuts (us ++ vs) (bs ++ cs)
behind {us = us} {vs = vs} {bs = bs} {cs = cs} f g = record { holds = λ ts rest b l. regroup us vs ts bs cs rest (f.holds (vs ++ ts) (cs ++ rest) (g.breaks rest b) (g.holds ts rest b l)) }

pub also : {us vs : List Token} {bs cs : List ℕ} → Follows us bs → Follows vs cs → Follows (us ++ vs) (bs ++ cs)
also {us = us} {vs = vs} {bs = bs} {cs = cs} f g = record {
  breaks = λ rest b. subst Breaks (sym (append_assoc bs cs rest)) (f.breaks (cs ++ rest) (g.breaks rest b));
  holds = λ ts rest b l. regroup us vs ts bs cs rest (f.holds (vs ++ ts) (cs ++ rest) (g.breaks rest b) (g.holds ts rest b l));
}

pub nothing : Follows [] []
nothing = record { breaks = λ rest b. b; holds = λ ts rest b l. l }

blank_front : (b : ℕ) (ts : List Token) (bs : List ℕ) → is_blank b ≡ true → Lexes ts bs → Lexes ts (b ∷ bs)
blank_front b [] bs e w = (e, w)
blank_front b (t ∷ ts) bs e (blanks, x, rest, p, h, k, q, w) = (b ∷ blanks, x, rest, (e, p), h, k, ap (λ (x : List ℕ). b ∷ x) q, w)

pub spaced : {us : List Token} {bs : List ℕ} → Cuts us bs → Follows us (32 ∷ bs)
spaced {us = us} {bs = bs} f = record { breaks = λ rest b. refl; holds = λ ts rest b l. blank_front 32 (us ++ ts) (bs ++ rest) refl (f.holds ts rest b l) }

pub comma : {us : List Token} {bs : List ℕ} → Cuts us bs → Follows (token.Symbol symbol.Comma ∷ us) (44 ∷ 32 ∷ bs)
comma {us = us} {bs = bs} f = record { breaks = λ rest b. refl; holds = λ ts rest b l. ([], sign symbol.Comma, 32 ∷ (bs ++ rest), tt, tt, refl, refl, blank_front 32 (us ++ ts) (bs ++ rest) refl (f.holds ts rest b l)) }

pub opened : {us : List Token} {bs : List ℕ} → Cuts us bs → Cuts (token.Symbol symbol.Open ∷ us) (40 ∷ bs)
opened {us = us} {bs = bs} f = record { holds = λ ts rest b l. ([], sign symbol.Open, bs ++ rest, tt, tt, refl, refl, f.holds ts rest b l) }

pub closing : Follows (token.Symbol symbol.Close ∷ []) (41 ∷ [])
closing = record { breaks = λ rest b. refl; holds = λ ts rest b l. ([], sign symbol.Close, rest, tt, tt, refl, refl, l) }

pub enclosed : {us : List Token} {bs : List ℕ} → Cuts us bs → Cuts (token.Symbol symbol.Open ∷ (us ++ token.Symbol symbol.Close ∷ [])) (40 ∷ (bs ++ 41 ∷ []))
enclosed f = opened (behind f closing)

-- in parentheses behind a word
pub called : {us : List Token} {bs : List ℕ} → Cuts us bs → Follows (token.Symbol symbol.Open ∷ (us ++ token.Symbol symbol.Close ∷ [])) (40 ∷ (bs ++ 41 ∷ []))
called f = let e = enclosed f in record { breaks = λ rest b. refl; holds = e.holds }

pub negative : {us : List Token} {bs : List ℕ} → Cuts us bs → Cuts (token.Symbol symbol.Minus ∷ us) (45 ∷ bs)
negative {us = us} {bs = bs} f = record { holds = λ ts rest b l. ([], sign symbol.Minus, bs ++ rest, tt, tt, refl, refl, f.holds ts rest b l) }

-- LEXEMES
one_cuts : (x : Lexeme) → ((rest : List ℕ) → Breaks rest → IsLexeme x rest) → Cuts (token_of x ∷ []) (bytes_of x)
one_cuts x f = record { holds = λ ts rest b l. ([], x, rest, tt, f rest b, refl, refl, l) }

is_token : (t u : Token) (bs : List ℕ) → t ≡ u → Cuts (t ∷ []) bs → Cuts (u ∷ []) bs
is_token t u bs e f = subst (λ (x : Token). Cuts (x ∷ []) bs) e f

same_number : (a b : ℕ) → (a == b) ≡ true → a ≡ b
same_number a b e = grind arith

or_else : (a b : Bool) → (a || b) ≡ true → (a ≡ true) ⊎ (b ≡ true)
or_else true b e = inl refl
or_else false b e = inr e

-- a byte is a number, or the rest of the test is true of it
is_or : (P : ℕ → Type 0) (c n : ℕ) (b : Bool) → ((c == n) || b) ≡ true → P n → (b ≡ true → P c) → P c
is_or P c n b e p f = ⊎_elim (λ same. subst P (sym (same_number c n same)) p) f (or_else (c == n) b e)

break_is : (P : ℕ → Type 0) (c : ℕ) → is_break c ≡ true → P 32 → P 40 → P 41 → P 44 → P c
break_is P c e w x y z = is_or P c 32 _ e w (λ e. is_or P c 40 _ e x (λ e. is_or P c 41 _ e y (λ e. subst P (sym (same_number c 44 e)) z)))

word_ends : (rest : List ℕ) → Breaks rest → Without is_word_byte rest
word_ends [] b = tt
word_ends (c ∷ rest) b = break_is (λ c. is_word_byte c ≡ false) c b refl refl refl refl

digits_end : (rest : List ℕ) → Breaks rest → Without is_digit rest
digits_end [] b = tt
digits_end (c ∷ rest) b = break_is (λ c. is_digit c ≡ false) c b refl refl refl refl

text_ends : (rest : List ℕ) → Breaks rest → Without is_quote rest
text_ends [] b = tt
text_ends (c ∷ rest) b = break_is (λ c. is_quote c ≡ false) c b refl refl refl refl

pub less_ends : (rest : List ℕ) → Breaks rest → Without is_either rest
less_ends [] b = tt
less_ends (c ∷ rest) b = break_is (λ c. is_either c ≡ false) c b refl refl refl refl

pub greater_ends : (rest : List ℕ) → Breaks rest → Without is_equal rest
greater_ends [] b = tt
greater_ends (c ∷ rest) b = break_is (λ c. is_equal c ≡ false) c b refl refl refl refl

-- signs
pub lone : (s : Symbol) (bs : List ℕ) → ((rest : List ℕ) → Breaks rest → IsLexeme (sign s) rest) → bytes_of (sign s) ≡ bs → Cuts (token.Symbol s ∷ []) bs
lone s bs f e = subst (λ (x : List ℕ). Cuts (token.Symbol s ∷ []) x) e (one_cuts (sign s) f)

-- keywords
abbrev are_word_bytes : List ℕ → Bool
are_word_bytes [] = true
are_word_bytes (b ∷ bs) = is_word_byte b && are_word_bytes bs

abbrev pub is_spelled : List ℕ → Bool
is_spelled [] = false
is_spelled (b ∷ bs) = is_letter b && are_word_bytes bs

all_of : (a b : Bool) → (a && b) ≡ true → (a ≡ true) × (b ≡ true)
all_of true b e = (refl, e)
all_of false b e = absurd (cc)

every_byte : (bs : List ℕ) → are_word_bytes bs ≡ true → every is_word_byte bs
every_byte [] e = tt
every_byte (b ∷ bs) e = let (p, q) = all_of (is_word_byte b) (are_word_bytes bs) e in (p, every_byte bs q)

begins : (bs : List ℕ) → is_spelled bs ≡ true → Begins is_letter is_word_byte bs
begins [] e = absurd (cc)
begins (b ∷ bs) e = let (p, q) = all_of (is_letter b) (are_word_bytes bs) e in (p, every_byte bs q)

pub keyword : (w : Word) (bs : List ℕ) → is_spelled bs ≡ true → token_of (word bs) ≡ token.Word w → Cuts (token.Word w ∷ []) bs
keyword w bs e k = is_token (token_of (word bs)) (token.Word w) bs k (one_cuts (word bs) (λ rest b. (begins bs e, word_ends rest b)))

-- names
record Plain (n : List ℕ) : Type 0 where
  same : smalls n ≡ n
  none : list_any is_capital n ≡ false
  bytes : every is_word_byte n

name_byte : (b : ℕ) → is_name_byte b ≡ true → (small b ≡ b) × (is_capital b ≡ false) × (is_word_byte b ≡ true)
name_byte b e = (grind arith, grind arith, grind arith)

small_letter : (b : ℕ) → is_small_letter b ≡ true → (is_letter b ≡ true) × (is_name_byte b ≡ true)
small_letter b e = (grind arith, grind arith)

neither : (a b : Bool) → a ≡ false → b ≡ false → (a || b) ≡ false
neither a b e f = grind arith

plain : (n : List ℕ) → every is_name_byte n → Plain n
plain [] e = record { same = refl; none = refl; bytes = tt }
plain (b ∷ n) e =
    let (s, c, w) = name_byte b e.0 in
    let r = plain n e.1 in
    record {
      same = ap (λ (x : ℕ). x ∷ smalls n) s ∙ ap (λ (x : List ℕ). b ∷ x) r.same;
      none = neither (is_capital b) (list_any is_capital n) c r.none;
      bytes = (w, r.bytes);
    }

name_token_is : (n m : List ℕ) (c : Bool) (k : Option Word) → m ≡ n → c ≡ false → k ≡ None → word_of k m c ≡ token.Name n
name_token_is n m true k e f g = absurd (cc)
name_token_is n m false (Some w) e f g = absurd (cc)
name_token_is n m false None e f g = ap token.Name e

pub name_word : (n : List ℕ) → IsName n → Begins is_letter is_word_byte n × (token_of (word n) ≡ token.Name n)
name_word [] i = absurd i.0
name_word (b ∷ n) i =
    let (l, s) = small_letter b i.0.0 in
    let p = plain (b ∷ n) (s, i.0.1) in
    ((l, p.bytes.1), name_token_is (b ∷ n) (smalls (b ∷ n)) (list_any is_capital (b ∷ n)) (keyword_of (smalls (b ∷ n))) p.same p.none (ap keyword_of p.same ∙ i.1))

pub name_cuts : (n : List ℕ) → IsName n → Cuts (token.Name n ∷ []) n
name_cuts n i =
    let (begun, same) = name_word n i in
    is_token (token_of (word n)) (token.Name n) n same (one_cuts (word n) (λ rest e. (begun, word_ends rest e)))

-- a name before a colon and a space
pub name_before_colon : (n : List ℕ) (ts : List Token) (bs : List ℕ) → IsName n → Lexes ts bs → Lexes (token.Name n ∷ token.Symbol symbol.Colon ∷ ts) (n ++ 58 ∷ 32 ∷ bs)
name_before_colon n ts bs i l =
    let (begun, same) = name_word n i in
    ([], word n, 58 ∷ 32 ∷ bs, tt, (begun, refl), sym same, refl, ([], sign symbol.Colon, 32 ∷ bs, tt, tt, refl, refl, blank_front 32 ts bs refl l))

-- numbers
record Reads (n : ℕ) (ds : List ℕ) : Type 0 where
  begins : Begins is_digit is_digit ds
  means : number_behind 0 ds ≡ n

digit_is : (d : ℕ) → d < 10 → is_digit (48 + d) ≡ true
digit_is d l = grind arith

every_push : (ds : List ℕ) (d : ℕ) → every is_digit ds → is_digit d ≡ true → every is_digit (ds ++ d ∷ [])
every_push [] d e i = (i, tt)
every_push (c ∷ ds) d e i = (e.0, every_push ds d e.1 i)

begins_push : (ds : List ℕ) (d : ℕ) → Begins is_digit is_digit ds → is_digit d ≡ true → Begins is_digit is_digit (ds ++ d ∷ [])
begins_push [] d e i = absurd e
begins_push (c ∷ ds) d e i = (e.0, every_push ds d e.1 i)

number_push : (n : ℕ) (ds : List ℕ) (d : ℕ) → number_behind n (ds ++ d ∷ []) ≡ number_behind n ds * 10 + (d - 48)
number_push n [] d = refl
number_push n (c ∷ ds) d = number_push (n * 10 + (c - 48)) ds d

one_reads : (n : ℕ) → n < 10 → Reads n ((48 + n) ∷ [])
one_reads n l = record { begins = (digit_is n l, tt); means = omega arith }

more_read : (n : ℕ) (ds : List ℕ) → 10 ≤ n → Reads (n / 10) ds → Reads n (ds ++ (48 + n % 10) ∷ [])
more_read n ds l r =
    let same : number_behind 0 ds ≡ n / 10 = r.means in
    let last : n % 10 < 10 = omega arith in
    record {
      begins = begins_push ds (48 + n % 10) r.begins (digit_is (n % 10) last);
      means = number_push 0 ds (48 + n % 10) ∙ omega arith;
    }

decimal_reads : (n : ℕ) → n < 2 ^ 64 → Reads n (decimal n)
decimal_reads n l = decimal_by_steps Reads one_reads more_read n l

every_digit : (ds : List ℕ) → Begins is_digit is_digit ds → every is_digit ds
every_digit [] b = absurd b
every_digit (d ∷ ds) b = b

pub decimal_digits : (n : ℕ) → n < 2 ^ 64 → every is_digit (decimal n)
decimal_digits n l = let r = decimal_reads n l in every_digit (decimal n) r.begins

fits : (n : ℕ) → n ≤ 18446744073709551615 → fitting n ≡ Some n
fits n l = grind arith

pub number_cuts : (n : Option ℕ) → IsNumber n → Cuts (token.Number n ∷ []) (number_text n)
number_cuts None i = absurd i
number_cuts (Some n) i =
    let r = decimal_reads n (omega arith) in
    is_token (token_of (digits (decimal n))) (token.Number (Some n)) (decimal n) (ap (λ (x : ℕ). token.Number (fitting x)) r.means ∙ ap token.Number (fits n i)) (one_cuts (digits (decimal n)) (λ rest b. (r.begins, digits_end rest b)))

-- texts
doubled-step : (b : ℕ) (bs : List ℕ) (c : Bool) → doubled bs ≡ flat_map quoted_byte bs → cond c (39 ∷ 39 ∷ doubled bs) (b ∷ doubled bs) ≡ cond c (codes "''") (b ∷ []) ++ flat_map quoted_byte bs
doubled-step b bs true ih = ap (λ (l : List ℕ). 39 ∷ 39 ∷ l) ih
doubled-step b bs false ih = ap (λ (l : List ℕ). b ∷ l) ih

-- the reader's doubled quotes are the printed ones
pub doubled-quoted : (t : List ℕ) → doubled t ≡ flat_map quoted_byte t
doubled-quoted [] = refl
doubled-quoted (b ∷ bs) = doubled-step b bs (is_quote b) (doubled-quoted bs)

pub text_cuts : (t : List ℕ) → Cuts (token.Text t ∷ []) (quoted t)
text_cuts t = subst (Cuts (token.Text t ∷ [])) (ap (λ (l : List ℕ). 39 ∷ (l ++ 39 ∷ [])) (doubled-quoted t)) (one_cuts (text t) text_ends)
