-- Lines and texts of a script's bytes are UTF-8 without a line feed.
use Rattle.std.proofs.Common.{◌≡◌, ℕ, zero, suc, ◌+◌, ◌<◌, ◌≤◌, ◌==◌, nat_lt, Bool, true, false, not, ◌&&◌, if◌then◌else◌, List, [], ◌∷◌, ◌++◌, length, Option, Some, None, refl, sym, ap, subst, append_assoc, append-nil, arith}
use Rattle.std.specs.Prelude.{IsUtf8, IsAscii}
use Rattle.std.specs.List.{list_any}
use Rattle.std.proofs.Math.Seq.{take-append_seam, drop-append_seam, get_or-append_seam}
use Rattle.std.proofs.lemmas.List.{length-append}
use Rattle.std.proofs.lemmas.Str.{encode_ascii, IsUtf8-append, IsUtf8-from_ascii, IsUtf8-nil, IsUtf8-take, IsUtf8-drop, IsUtf8-past_char}
use Rattle.gx_lex.specs.declared.word.Word.{Word}
use Rattle.gx_lex.specs.declared.symbol.Symbol.{Symbol}
use Rattle.gx_lex.specs.declared.symbol.Symbol.TheVariants.{Open, Close, Star, Comma, Plus, Minus, Slash, Percent, Colon, Semicolon, Equal, NotEqual, Less, LessEqual, Greater, GreaterEqual}
use Rattle.gx_lex.specs.declared.token.Token.{Token}
use Rattle.gx_lex.specs.declared.token.Token.TheVariants as token
use Rattle.gx_lex.specs.Symbols.{bytes_of_symbol}
use Rattle.gx_lex.specs.Words.{keyword_of}
use Rattle.gx_lex.specs.Lexing.{is_blank, is_letter, is_digit, is_word_byte, is_capital, is_quote, every, smalls, doubled, Lexeme, word, digits, text, sign, open_text, stray, bytes_of, IsLexeme, word_of, token_of, Lexes}
use Rattle.gx_sql.specs.Cutting.{is_within}
use Rattle.gx_sql.specs.Lines.{begins, without_returns, before, fed_lines, lines_of}
use Rattle.gx_print.specs.Limited.{Each}
use Rattle.gx_print.specs.OneLine.{IsOneLine}

-- BYTES
abbrev pub is_low : ℕ → Bool
is_low b = nat_lt b 128

low_is : (b : ℕ) → is_low b ≡ true → b < 128
low_is b e = grind arith

first_of : (a b : Bool) → (a && b) ≡ true → a ≡ true
first_of true b e = refl
first_of false b e = absurd cc

return_low : (b : ℕ) → (b == 13) ≡ true → b < 128
return_low b e = grind arith

feed_low : (b : ℕ) → (b == 10) ≡ true → b < 128
feed_low b e = grind arith

quote_low : (b : ℕ) → is_quote b ≡ true → b < 128
quote_low b e = grind arith

every_push : (p : ℕ → Bool) (bs : List ℕ) (b : ℕ) → every p bs → p b ≡ true → every p (bs ++ b ∷ [])
every_push p [] b e i = (i, tt)
every_push p (c ∷ bs) b e i = (e.0, every_push p bs b e.1 i)

pub every_append : (p : ℕ → Bool) (xs bs : List ℕ) → every p xs → every p bs → every p (xs ++ bs)
every_append p [] bs e f = f
every_append p (a ∷ xs) bs e f = (e.0, every_append p xs bs e.1 f)

every_parts : (p : ℕ → Bool) (xs bs : List ℕ) → every p (xs ++ bs) → every p xs × every p bs
every_parts p [] bs e = (tt, e)
every_parts p (a ∷ xs) bs e = let rest = every_parts p xs bs e.1 in ((e.0, rest.0), rest.1)

-- AT AN ASCII BYTE
one_ascii : (b : ℕ) → b < 128 → IsAscii (b ∷ [])
one_ascii b low zero = low
one_ascii b low (suc i) = omega arith

cut_at : (xs : List ℕ) (b : ℕ) (bs : List ℕ) → b < 128 → IsUtf8 (xs ++ b ∷ bs) → IsUtf8 xs × IsUtf8 (b ∷ bs)
cut_at xs b bs low u =
    let at = get_or-append_seam xs b bs 0 in
    let len = length-append xs (b ∷ bs) in
    let inside : length xs ≤ length (xs ++ b ∷ bs) = omega (arith, len) in (
      subst IsUtf8 (take-append_seam xs (b ∷ bs)) (IsUtf8-take (xs ++ b ∷ bs) (length xs) u (inside, λ i high. absurd (omega (arith, low, high, at)))),
      subst IsUtf8 (drop-append_seam xs (b ∷ bs)) (IsUtf8-drop (xs ++ b ∷ bs) (length xs) u (inside, λ i high. absurd (omega (arith, low, high, at)))),
    )

behind_byte : (b : ℕ) (bs : List ℕ) → b < 128 → IsUtf8 (b ∷ bs) → IsUtf8 bs
behind_byte b bs low u = IsUtf8-past_char (b ∷ bs) bs b u (ap (λ (e : List ℕ). e ++ bs) (sym (encode_ascii b low)))

before_byte : (b : ℕ) (bs : List ℕ) → b < 128 → IsUtf8 bs → IsUtf8 (b ∷ bs)
before_byte b bs low u = IsUtf8-append (b ∷ []) bs (IsUtf8-from_ascii (b ∷ []) (one_ascii b low)) u

-- a byte more in front
pushed : (xs : List ℕ) (b : ℕ) (bs : List ℕ) → IsUtf8 (xs ++ b ∷ bs) → IsUtf8 ((xs ++ b ∷ []) ++ bs)
pushed xs b bs u = subst IsUtf8 (sym (append_assoc xs (b ∷ []) bs)) u

popped : (xs : List ℕ) (b : ℕ) (bs : List ℕ) → IsUtf8 ((xs ++ b ∷ []) ++ bs) → IsUtf8 (xs ++ b ∷ bs)
popped xs b bs u = subst IsUtf8 (append_assoc xs (b ∷ []) bs) u

ascii_coded : (bs : List ℕ) → every is_low bs → IsUtf8 bs
ascii_coded [] e = IsUtf8-nil
ascii_coded (b ∷ bs) e = before_byte b bs (low_is b e.0) (ascii_coded bs e.1)

behind_ascii : (xs bs : List ℕ) → every is_low xs → IsUtf8 (xs ++ bs) → IsUtf8 bs
behind_ascii [] bs e u = u
behind_ascii (a ∷ xs) bs e u = behind_ascii xs bs e.1 (behind_byte a (xs ++ bs) (low_is a e.0) u)

-- LINES
coded_without : (bs xs : List ℕ) → IsUtf8 (xs ++ bs) → IsUtf8 (xs ++ without_returns bs)
coded_without [] xs u = u
coded_without (b ∷ bs) xs u = pick (coded_without bs) ((b == 13) && begins 10 bs) refl
  where
    pick : ((cs : List ℕ) → IsUtf8 (cs ++ bs) → IsUtf8 (cs ++ without_returns bs)) → (c : Bool) → ((b == 13) && begins 10 bs) ≡ c → IsUtf8 (xs ++ (if c then without_returns bs else b ∷ without_returns bs))
    pick f true e =
        let low = return_low b (first_of (b == 13) (begins 10 bs) e) in
        let parts = cut_at xs b bs low u in
        f xs (IsUtf8-append xs bs parts.0 (behind_byte b bs low parts.1))
    pick f false e = popped xs b (without_returns bs) (f (xs ++ b ∷ []) (pushed xs b bs u))

-- lines, with more in front of the first
abbrev after : List ℕ → List (List ℕ) → List (List ℕ)
after xs [] = xs ∷ []
after xs (l ∷ ls) = (xs ++ l) ∷ ls

without_first : (ls : List (List ℕ)) → Each IsOneLine (after [] ls) → Each IsOneLine ls
without_first [] e = tt
without_first (l ∷ ls) e = e

after_before : (xs : List ℕ) (b : ℕ) (ls : List (List ℕ)) → after (xs ++ b ∷ []) ls ≡ after xs (before b ls)
after_before xs b [] = refl
after_before xs b (l ∷ ls) = ap (λ (t : List ℕ). t ∷ ls) (append_assoc xs (b ∷ []) l)

lines_coded : (bs xs : List ℕ) → every is_within xs → IsUtf8 (xs ++ bs) → Each IsOneLine (after xs (fed_lines bs))
lines_coded [] xs w u = (record { unfed = w; coded = subst IsUtf8 (append-nil xs) u }, tt)
lines_coded (b ∷ bs) xs w u = pick (lines_coded bs) (b == 10) refl
  where
    pick : ((cs : List ℕ) → every is_within cs → IsUtf8 (cs ++ bs) → Each IsOneLine (after cs (fed_lines bs))) → (c : Bool) → (b == 10) ≡ c → Each IsOneLine (after xs (if c then [] ∷ fed_lines bs else before b (fed_lines bs)))
    pick f true e =
        let low = feed_low b e in
        let parts = cut_at xs b bs low u in
        let first : IsOneLine (xs ++ []) = subst IsOneLine (sym (append-nil xs)) (record { unfed = w; coded = parts.0 }) in
        (first, without_first (fed_lines bs) (f [] tt (behind_byte b bs low parts.1)))
    pick f false e = subst (Each IsOneLine) (after_before xs b (fed_lines bs)) (f (xs ++ b ∷ []) (every_push is_within xs b w (ap not e)) (pushed xs b bs u))

-- each line of UTF-8 is UTF-8
pub lines_one : (bytes : List ℕ) → IsUtf8 bytes → Each IsOneLine (lines_of bytes)
lines_one bytes u = without_first (lines_of bytes) (lines_coded (without_returns bytes) [] tt (coded_without bytes [] u))

-- TEXTS IN QUOTES
coded_doubled : (t xs : List ℕ) → IsUtf8 (xs ++ t) → IsUtf8 (xs ++ doubled t)
coded_doubled [] xs u = u
coded_doubled (b ∷ t) xs u = pick (coded_doubled t) (is_quote b) refl
  where
    pick : ((cs : List ℕ) → IsUtf8 (cs ++ t) → IsUtf8 (cs ++ doubled t)) → (c : Bool) → is_quote b ≡ c → IsUtf8 (xs ++ (if c then 39 ∷ 39 ∷ doubled t else b ∷ doubled t))
    pick f true e =
        let low = quote_low b e in
        let parts = cut_at xs b t low u in
        let rest = f [] (behind_byte b t low parts.1) in
        IsUtf8-append xs (39 ∷ 39 ∷ doubled t) parts.0 (before_byte 39 (39 ∷ doubled t) (omega arith) (before_byte 39 (doubled t) (omega arith) rest))
    pick f false e = popped xs b (doubled t) (f (xs ++ b ∷ []) (pushed xs b t u))

coded_single : (t xs : List ℕ) → IsUtf8 (xs ++ doubled t) → IsUtf8 (xs ++ t)
coded_single [] xs u = u
coded_single (b ∷ t) xs u = pick (coded_single t) (is_quote b) refl u
  where
    pick : ((cs : List ℕ) → IsUtf8 (cs ++ doubled t) → IsUtf8 (cs ++ t)) → (c : Bool) → is_quote b ≡ c → IsUtf8 (xs ++ (if c then 39 ∷ 39 ∷ doubled t else b ∷ doubled t)) → IsUtf8 (xs ++ b ∷ t)
    pick f true e u =
        let parts = cut_at xs 39 (39 ∷ doubled t) (omega arith) u in
        let rest = f [] (behind_byte 39 (doubled t) (omega arith) (behind_byte 39 (39 ∷ doubled t) (omega arith) parts.1)) in
        IsUtf8-append xs (b ∷ t) parts.0 (before_byte b t (quote_low b e) rest)
    pick f false e u = popped xs b t (f (xs ++ b ∷ []) (pushed xs b (doubled t) u))

unfed_doubled : (t : List ℕ) → every is_within t → every is_within (doubled t)
unfed_doubled [] e = tt
unfed_doubled (b ∷ t) e = pick (unfed_doubled t e.1) (is_quote b)
  where
    pick : every is_within (doubled t) → (c : Bool) → every is_within (if c then 39 ∷ 39 ∷ doubled t else b ∷ doubled t)
    pick rest true = (refl, (refl, rest))
    pick rest false = (e.0, rest)

quote_within : (b : ℕ) → is_quote b ≡ true → is_within b ≡ true
quote_within b e = grind arith

unfed_single : (t : List ℕ) → every is_within (doubled t) → every is_within t
unfed_single [] e = tt
unfed_single (b ∷ t) e = pick (unfed_single t) (is_quote b) refl e
  where
    pick : (every is_within (doubled t) → every is_within t) → (c : Bool) → is_quote b ≡ c → every is_within (if c then 39 ∷ 39 ∷ doubled t else b ∷ doubled t) → every is_within (b ∷ t)
    pick f true q e = (quote_within b q, f e.1.1)
    pick f false q e = (e.0, f e.1)

pub doubled_one : (t : List ℕ) → IsOneLine t → IsOneLine (doubled t)
doubled_one t o = record { unfed = unfed_doubled t o.unfed; coded = coded_doubled t [] o.coded }

-- TOKENS
-- a text that is a token may stand in a line
abbrev pub TokenOne : Token → Type 0
TokenOne (token.Text t) = IsOneLine t
TokenOne _ = Unit {0}

word_one : (k : Option Word) (w : List ℕ) (c : Bool) → TokenOne (word_of k w c)
word_one (Some k) w c = tt
word_one None w true = tt
word_one None w false = tt

blank_low : (b : ℕ) → is_blank b ≡ true → is_low b ≡ true
blank_low b e = grind arith

letter_low : (b : ℕ) → is_letter b ≡ true → is_low b ≡ true
letter_low b e = grind arith

digit_low : (b : ℕ) → is_digit b ≡ true → is_low b ≡ true
digit_low b e = grind arith

word_low : (b : ℕ) → is_word_byte b ≡ true → is_low b ≡ true
word_low b e = grind arith

pub every_as : (p q : ℕ → Bool) → ((b : ℕ) → p b ≡ true → q b ≡ true) → (bs : List ℕ) → every p bs → every q bs
every_as p q f [] e = tt
every_as p q f (b ∷ bs) e = (f b e.0, every_as p q f bs e.1)

sign_low : (s : Symbol) → every is_low (bytes_of_symbol s)
sign_low Open = (refl, tt)
sign_low Close = (refl, tt)
sign_low Star = (refl, tt)
sign_low Comma = (refl, tt)
sign_low Plus = (refl, tt)
sign_low Minus = (refl, tt)
sign_low Slash = (refl, tt)
sign_low Percent = (refl, tt)
sign_low Colon = (refl, tt)
sign_low Semicolon = (refl, tt)
sign_low Equal = (refl, tt)
sign_low NotEqual = (refl, (refl, tt))
sign_low Less = (refl, tt)
sign_low LessEqual = (refl, (refl, tt))
sign_low Greater = (refl, tt)
sign_low GreaterEqual = (refl, (refl, tt))

-- what a lexeme is and what stands behind it
abbrev Apart : Lexeme → List ℕ → Type 0
Apart x rest = TokenOne (token_of x) × IsOneLine rest

behind_low : (bs rest : List ℕ) → every is_low bs → IsOneLine (bs ++ rest) → IsOneLine rest
behind_low bs rest low o = let parts = every_parts is_within bs rest o.unfed in record { unfed = parts.1; coded = behind_ascii bs rest low o.coded }

pub nothing_one : IsOneLine []
nothing_one = record { unfed = tt; coded = IsUtf8-nil }

text_apart : (t rest : List ℕ) → IsOneLine ((39 ∷ (doubled t ++ 39 ∷ [])) ++ rest) → Apart (text t) rest
text_apart t rest o =
    let inner : IsOneLine (doubled t ++ 39 ∷ rest) = subst IsOneLine (append_assoc (doubled t) (39 ∷ []) rest) (behind_low (39 ∷ []) ((doubled t ++ 39 ∷ []) ++ rest) (refl, tt) o) in
    let bytes = every_parts is_within (doubled t) (39 ∷ rest) inner.unfed in
    let parts = cut_at (doubled t) 39 rest (omega arith) inner.coded in
    (record { unfed = unfed_single t bytes.0; coded = coded_single t [] parts.0 }, record { unfed = bytes.1.1; coded = behind_byte 39 rest (omega arith) parts.1 })

apart : (x : Lexeme) (rest : List ℕ) → IsLexeme x rest → IsOneLine (bytes_of x ++ rest) → Apart x rest
apart (word []) rest is o = absurd is.0
apart (word (b ∷ w)) rest is o = (word_one (keyword_of (smalls (b ∷ w))) (smalls (b ∷ w)) (list_any is_capital (b ∷ w)), behind_low (b ∷ w) rest (letter_low b is.0.0, every_as is_word_byte is_low word_low w is.0.1) o)
apart (digits []) rest is o = absurd is.0
apart (digits (b ∷ w)) rest is o = (tt, behind_low (b ∷ w) rest (digit_low b is.0.0, every_as is_digit is_low digit_low w is.0.1) o)
apart (text t) rest is o = text_apart t rest o
apart (sign s) rest is o = (tt, behind_low (bytes_of_symbol s) rest (sign_low s) o)
apart (open_text t) rest is o = (tt, subst IsOneLine (sym is) nothing_one)
apart (stray b w) rest is o = (tt, subst IsOneLine (sym is.1) nothing_one)

-- the texts among a line's tokens may stand in a line
pub tokens_one : (ts : List Token) (bs : List ℕ) → IsOneLine bs → Lexes ts bs → Each TokenOne ts
tokens_one [] bs o l = tt
tokens_one (t ∷ ts) bs o (blanks, x, rest, blank, is, same, cut, more) =
    let here = behind_low blanks (bytes_of x ++ rest) (every_as is_blank is_low blank_low blanks blank) (subst IsOneLine cut o) in
    let parts = apart x rest is here in
    (subst TokenOne (sym same) parts.0, tokens_one ts rest parts.1 more)

-- WHAT IS PRINTED
pub low_one : (bs : List ℕ) → every is_low bs → every is_within bs → IsOneLine bs
low_one bs low within = record { unfed = within; coded = ascii_coded bs low }

pub one_append : (xs bs : List ℕ) → IsOneLine xs → IsOneLine bs → IsOneLine (xs ++ bs)
one_append xs bs a b = record { unfed = every_append is_within xs bs a.unfed b.unfed; coded = IsUtf8-append xs bs a.coded b.coded }
