-- Values, rows and images are read as they are printed.
use Rattle.std.proofs.Common.{◌≡◌, ◌≢◌, ℕ, zero, suc, ◌+◌, ◌%◌, ◌^◌, ◌<◌, ◌==◌, nat_lt, Bool, true, false, if◌then◌else◌, ℤ, pos, negsuc}
use Rattle.std.proofs.Common.{List, [], ◌∷◌, ◌++◌, codes, Option, Some, None, refl, sym, ◌∙◌, ap, subst, inl, inr, arith, append_assoc, append-nil}
use Rattle.std.specs.Prelude.{option_and_then, All, ◌⊎◌}
use Rattle.std.specs.Option.{option_map}
use Rattle.std.specs.List.{flat_map}
use Rattle.std.specs.Fmt.{decimal, signed_decimal}
use Rattle.std.proofs.lemmas.List.{length-append}
use Rattle.std.proofs.lemmas.List.Elements.{All-nil, All-cons, All-head, All-tail}
use Rattle.std.proofs.lemmas.Option.{none-some, some_pair_parts, option_and_then_some}
use Rattle.gx_lex.specs.Lexing.{is_digit}
use Rattle.gx_msg.specs.ItemBytes.{behind_bar, bytes_of_image, bytes_of_row, bytes_of_value}
use Rattle.gx_report.specs.Words.{word_text}
use Rattle.gx_text.specs.Quoted.{quoted, quoted_byte}
use Rattle.gx_tree.specs.declared.value.Value.{Value}
use Rattle.gx_tree.specs.declared.value.Value.TheVariants as value
use Rattle.gx_trace.specs.Lawful.{IsImage, IsLine, IsSigned, IsValue}
use Rattle.gx_trace.specs.Readers.{Front, made, number, to_end, word, EndsNumber, IsEnd, IsReaderOf}
use Rattle.gx_trace.specs.Values.{gone, image, image_at, integer, joined, minus, negative, other_value, plus, positive, taken, text, text_on, value_at, values}
use Rattle.gx_trace.proofs.Alternatives.{one-or-other, said-as}
use Rattle.gx_trace.proofs.Digits.{number-again, number-sound}
use Rattle.gx_trace.proofs.Many.{ends-read}
use Rattle.gx_trace.proofs.Readers.{behind-word, made-into, one-behind-other}
use Rattle.gx_trace.proofs.Wholes.{IsWithin, not-word, wholes}
use Rattle.gx_trace.proofs.Words.{if-true, if-false, word-again, word-sound}

-- TEXTS
-- what is no quote ends a text
abbrev pub EndsText : List ℕ → Type 0
EndsText [] = Unit {0}
EndsText (b ∷ bs) = (b == 39) ≡ false

same-of : (a b : ℕ) → (a == b) ≡ true → a ≡ b
same-of a b e = grind arith

not-feed : (b : ℕ) → b ≢ 10 → (b == 10) ≡ false
not-feed b ne = none (b == 10) refl
  where
    none : (c : Bool) → (b == 10) ≡ c → c ≡ false
    none true e = absurd (ne (same-of b 10 e))
    none false e = refl

last-quote : (acc rest : List ℕ) → EndsText rest → text_on true acc rest ≡ Some (acc, rest)
last-quote acc [] ends = refl
last-quote acc (b ∷ bs) ends = if-false (b == 39) (text_on false (acc ++ b ∷ []) bs) (Some (acc, b ∷ bs)) ends

byte-again : (b : ℕ) (c : Bool) (acc more : List ℕ) → (b == 39) ≡ c → b ≢ 10 → text_on false acc ((if c then codes "''" else b ∷ []) ++ more) ≡ text_on false (acc ++ b ∷ []) more
byte-again b true acc more e ne = ap (λ x. text_on false (acc ++ x ∷ []) more) (sym (same-of b 39 e))
byte-again b false acc more e ne =
    if-false (b == 39) (text_on true acc more) (if b == 10 then None else text_on false (acc ++ b ∷ []) more) e ∙ if-false (b == 10) None (text_on false (acc ++ b ∷ []) more) (not-feed b ne)

text-again : (t acc rest : List ℕ) → IsLine t → EndsText rest → text_on false acc ((flat_map quoted_byte t ++ codes "'") ++ rest) ≡ Some (acc ++ t, rest)
text-again [] acc rest line ends = last-quote acc rest ends ∙ ap (λ x. Some (x, rest)) (sym (append-nil acc))
text-again (b ∷ t) acc rest line ends =
    let P : ℕ → Type 0 = λ byte. byte ≢ 10 in
    ap (λ x. text_on false acc x) (ap (λ x. x ++ rest) (append_assoc (quoted_byte b) (flat_map quoted_byte t) (codes "'")) ∙ append_assoc (quoted_byte b) (flat_map quoted_byte t ++ codes "'") rest)
    ∙ byte-again b (b == 39) acc ((flat_map quoted_byte t ++ codes "'") ++ rest) refl (All-head P b t line)
    ∙ text-again t (acc ++ b ∷ []) rest (All-tail P b t line) ends
    ∙ ap (λ x. Some (x, rest)) (append_assoc acc (b ∷ []) t)

-- what was read behind acc; where the last byte was a quote, with that quote
pub record IsText (front : List ℕ) (acc bytes t rest : List ℕ) : Type 0 where
  pub more : List ℕ
  pub all : t ≡ acc ++ more
  pub line : IsLine more
  pub stands : front ++ bytes ≡ (flat_map quoted_byte more ++ codes "'") ++ rest

abbrev quote_if : Bool → List ℕ
quote_if q = if q then codes "'" else []

longer : (b : ℕ) (acc bs t rest : List ℕ) → b ≢ 10 → IsText [] (acc ++ b ∷ []) bs t rest → (front : List ℕ) (bytes : List ℕ) → front ++ bytes ≡ quoted_byte b ++ bs → IsText front acc bytes t rest
longer b acc bs t rest ne x front bytes e =
    let P : ℕ → Type 0 = λ byte. byte ≢ 10 in
    record {
      more = b ∷ x.more;
      all = x.all ∙ append_assoc acc (b ∷ []) x.more;
      line = All-cons P b x.more ne x.line;
      stands =
          e
          ∙ ap (λ y. quoted_byte b ++ y) x.stands ∙ sym (append_assoc (quoted_byte b) (flat_map quoted_byte x.more ++ codes "'") rest) ∙ ap (λ y. y ++ rest) (sym (append_assoc (quoted_byte b) (flat_map quoted_byte x.more) (codes "'")));
    }

ended-here : (acc t bytes rest : List ℕ) → ◌≡◌ {A = Front (List ℕ)} (Some (acc, bytes)) (Some (t, rest)) → IsText (codes "'") acc bytes t rest
ended-here acc t bytes rest e =
    let (p, q) = some_pair_parts acc t bytes rest e in
    record { more = []; all = sym p ∙ sym (append-nil acc); line = All-nil (λ byte. byte ≢ 10); stands = ap (λ y. codes "'" ++ y) q }

plain-byte : (b : ℕ) (bs : List ℕ) (c : Bool) → (b == 39) ≡ c → c ≡ false → b ∷ bs ≡ (if c then codes "''" else b ∷ []) ++ bs
plain-byte b bs true e f = absurd (grind (arith, f))
plain-byte b bs false e f = refl

quote-byte : (b : ℕ) (bs : List ℕ) (c : Bool) → (b == 39) ≡ c → c ≡ true → codes "'" ++ (b ∷ bs) ≡ (if c then codes "''" else b ∷ []) ++ bs
quote-byte b bs true e f = ap (λ x. 39 ∷ (x ∷ bs)) (same-of b 39 e)
quote-byte b bs false e f = absurd (grind (arith, f))

within-text : (b : ℕ) (acc bs t rest : List ℕ) → ((q : Bool) (more : List ℕ) → text_on q more bs ≡ Some (t, rest) → IsText (quote_if q) more bs t rest) → (c d : Bool) → (b == 39) ≡ c → (b == 10) ≡ d
    → ◌≡◌ {A = Front (List ℕ)} (if c then text_on true acc bs else (if d then None else text_on false (acc ++ b ∷ []) bs)) (Some (t, rest)) → IsText [] acc (b ∷ bs) t rest
within-text b acc bs t rest ih true d c feed e = let x = ih true acc e in record { more = x.more; all = x.all; line = x.line; stands = ap (λ y. y ∷ bs) (same-of b 39 c) ∙ x.stands }
within-text b acc bs t rest ih false true c feed e = absurd (none-some _ e)
within-text b acc bs t rest ih false false c feed e =
    longer b acc bs t rest (λ same. absurd (grind (arith, feed, same))) (ih false (acc ++ b ∷ []) e) [] (b ∷ bs) (plain-byte b bs (b == 39) refl c)

behind-quote : (b : ℕ) (acc bs t rest : List ℕ) → (text_on false (acc ++ b ∷ []) bs ≡ Some (t, rest) → IsText [] (acc ++ b ∷ []) bs t rest) → (c : Bool) → (b == 39) ≡ c
    → ◌≡◌ {A = Front (List ℕ)} (if c then text_on false (acc ++ b ∷ []) bs else Some (acc, b ∷ bs)) (Some (t, rest)) → IsText (codes "'") acc (b ∷ bs) t rest
behind-quote b acc bs t rest ih true c e = longer b acc bs t rest (λ same. absurd (grind (arith, c, same))) (ih e) (codes "'") (b ∷ bs) (quote-byte b bs (b == 39) refl c)
behind-quote b acc bs t rest ih false c e = ended-here acc t (b ∷ bs) rest e

text-sound : (q : Bool) (acc bytes t rest : List ℕ) → text_on q acc bytes ≡ Some (t, rest) → IsText (quote_if q) acc bytes t rest
text-sound false acc [] t rest e = absurd (none-some _ e)
text-sound true acc [] t rest e = ended-here acc t [] rest e
text-sound false acc (b ∷ bs) t rest e = within-text b acc bs t rest (λ q more f. text-sound q more bs t rest f) (b == 39) (b == 10) refl refl e
text-sound true acc (b ∷ bs) t rest e = behind-quote b acc bs t rest (λ f. text-sound false (acc ++ b ∷ []) bs t rest f) (b == 39) refl e

pub texts : IsReaderOf quoted IsLine EndsText text
texts = said-text (behind-word (codes "'") rest-of-text)
  where
    rest-of-text : IsReaderOf (λ t. flat_map quoted_byte t ++ codes "'") IsLine EndsText (text_on false [])
    rest-of-text = record {
      again = λ t rest line ends. text-again t [] rest line ends;
      sound = λ bytes rest t e.
          let x = text-sound false [] bytes t rest e in
          (subst IsLine (sym x.all) x.line, x.stands ∙ ap (λ y. (flat_map quoted_byte y ++ codes "'") ++ rest) (sym x.all));
    }

    said-text : IsReaderOf (λ t. codes "'" ++ (flat_map quoted_byte t ++ codes "'")) IsLine EndsText text → IsReaderOf quoted IsLine EndsText text
    said-text r = record { again = λ t rest line ends. r.again t rest line ends; sound = λ bytes rest t e. r.sound bytes rest t e }

-- WHOLE NUMBERS
is-signed : (z : ℤ) → IsWithin (2 ^ 63) z → IsSigned 63 z
is-signed (pos n) is = is
is-signed (negsuc n) is = is

signed-is : (z : ℤ) → IsSigned 63 z → IsWithin (2 ^ 63) z
signed-is (pos n) is = is
signed-is (negsuc n) is = is

pub integers : IsReaderOf signed_decimal (IsSigned 63) EndsNumber integer
integers = said-as (IsSigned 63) EndsNumber (wholes (2 ^ 64) (2 ^ 63) (omega arith) (omega arith) (omega arith)) signed-is is-signed (λ rest ends. ends)

-- VALUES
-- what is neither a digit nor a quote ends a value
abbrev EndsValue : List ℕ → Type 0
EndsValue [] = Unit {0}
EndsValue (b ∷ bs) = (is_digit b ≡ false) × ((b == 39) ≡ false)

ends-number : (rest : List ℕ) → EndsValue rest → EndsNumber rest
ends-number [] ends = tt
ends-number (b ∷ bs) ends = ends.0

ends-text : (rest : List ℕ) → EndsValue rest → EndsText rest
ends-text [] ends = tt
ends-text (b ∷ bs) ends = ends.1

abbrev IsTextValue : Value → Type 0
IsTextValue (value.Int z) = ⊥
IsTextValue (value.Text t) = IsLine t

abbrev IsNumber : Value → Type 0
IsNumber (value.Int z) = IsSigned 63 z
IsNumber (value.Text t) = ⊥

text-parts : (v : Value) → IsTextValue v → (t : List ℕ) × (value.Text t ≡ v) × IsLine t
text-parts (value.Int z) is = absurd is
text-parts (value.Text t) is = (t, refl, is)

number-parts : (v : Value) → IsNumber v → (z : ℤ) × (value.Int z ≡ v) × IsSigned 63 z
number-parts (value.Int z) is = (z, refl, is)
number-parts (value.Text t) is = absurd is

text-values : IsReaderOf bytes_of_value IsTextValue EndsText (λ bytes. made value.Text (text bytes))
text-values = made-into bytes_of_value IsTextValue value.Text texts text-parts (λ t is. (is, refl))

number-values : IsReaderOf bytes_of_value IsNumber EndsNumber (λ bytes. made value.Int (integer bytes))
number-values = made-into bytes_of_value IsNumber value.Int integers number-parts (λ z is. (is, refl))

no-quote : (v : Value) (rest : List ℕ) → IsNumber v → made value.Text (text (bytes_of_value v ++ rest)) ≡ None
no-quote (value.Int (pos n)) rest is = ap (λ o. made value.Text (option_and_then (λ x. text_on false [] x.1) o)) (not-word 39 [] n rest (omega (arith, is)) (λ d l. grind arith))
no-quote (value.Int (negsuc n)) rest is = refl
no-quote (value.Text t) rest is = absurd is

value-is : (v : Value) → IsValue v → IsTextValue v ⊎ IsNumber v
value-is (value.Int z) is = inr is
value-is (value.Text t) is = inl is

is-value : (v : Value) → IsTextValue v ⊎ IsNumber v → IsValue v
is-value (value.Int z) is = elim is [ inl h ↦ absurd h | inr h ↦ h ]
is-value (value.Text t) is = elim is [ inl h ↦ h | inr h ↦ absurd h ]

one-value : IsReaderOf bytes_of_value IsValue EndsValue value_at
one-value =
    said-as IsValue EndsValue
    (one-or-other bytes_of_value IsTextValue IsNumber (said-as IsTextValue EndsValue text-values (λ v is. is) (λ v is. is) ends-text) (said-as IsNumber EndsValue number-values (λ v is. is) (λ v is. is) ends-number) no-quote)
    value-is is-value (λ rest ends. ends)

-- ROWS
more-values : IsReaderOf (flat_map behind_bar) (All IsValue) IsEnd (to_end other_value)
more-values =
    ends-read (behind-word (codes "|") one-value)
    (record { begins = λ v is. omega (arith, length-append (codes "|") (bytes_of_value v)); follows = λ v rest is. (refl, refl); last = tt })

abbrev pub IsRow : List Value → Type 0
IsRow [] = ⊥
IsRow (v ∷ vs) = All IsValue (v ∷ vs)

bar-behind : (vs : List Value) (rest : List ℕ) → All IsValue vs → IsEnd rest → EndsValue (flat_map behind_bar vs ++ rest)
bar-behind [] rest all end = subst EndsValue (sym end) tt
bar-behind (v ∷ vs) rest all end = (refl, refl)

row-parts : (row : List Value) → IsRow row → (x : Value × List Value) × (joined x ≡ row) × (IsValue x.0 × All IsValue x.1)
row-parts [] is = absurd is
row-parts (v ∷ vs) is = ((v, vs), refl, (All-head IsValue v vs is, All-tail IsValue v vs is))

pub rows : IsReaderOf bytes_of_row IsRow IsEnd values
rows = made-into bytes_of_row IsRow joined (one-behind-other one-value more-values bar-behind) row-parts (λ x is. (All-cons IsValue x.0 x.1 is.0 is.1, refl))

-- IMAGES
abbrev IsGone : Option (List Value) → Type 0
IsGone None = Unit {0}
IsGone (Some row) = ⊥

abbrev IsThere : Option (List Value) → Type 0
IsThere None = ⊥
IsThere (Some row) = IsRow row

gone-parts : (image : Option (List Value)) → IsGone image → (x : Unit {0}) × (gone x ≡ image) × Unit {0}
gone-parts None is = (tt, refl, tt)
gone-parts (Some row) is = absurd is

there-parts : (image : Option (List Value)) → IsThere image → (row : List Value) × (Some row ≡ image) × IsRow row
there-parts None is = absurd is
there-parts (Some row) is = (row, refl, is)

the-word : IsReaderOf (λ (x : Unit {0}). codes "gone") (λ x. Unit {0}) IsEnd (word (codes "gone"))
the-word = record { again = λ x rest is end. word-again (codes "gone") rest; sound = λ bytes rest x e. (tt, word-sound (codes "gone") bytes rest e) }

not-gone-by : (v : Value) (more : List ℕ) → IsValue v → word (codes "gone") (bytes_of_value v ++ more) ≡ None
not-gone-by (value.Int (pos n)) more is = not-word 103 (codes "one") n more (omega (arith, is)) (λ d l. grind arith)
not-gone-by (value.Int (negsuc n)) more is = refl
not-gone-by (value.Text t) more is = refl

not-gone : (image : Option (List Value)) (rest : List ℕ) → IsThere image → made gone (word (codes "gone") (bytes_of_image image ++ rest)) ≡ None
not-gone None rest is = absurd is
not-gone (Some []) rest is = absurd is
not-gone (Some (v ∷ vs)) rest is = ap (made gone) (ap (word (codes "gone")) (append_assoc (bytes_of_value v) (flat_map behind_bar vs) rest) ∙ not-gone-by v (flat_map behind_bar vs ++ rest) (All-head IsValue v vs is))

image-is : (image : Option (List Value)) → IsImage image → IsGone image ⊎ IsThere image
image-is None is = inl tt
image-is (Some []) is = absurd is
image-is (Some (v ∷ vs)) is = inr is

is-image : (image : Option (List Value)) → IsGone image ⊎ IsThere image → IsImage image
is-image None is = tt
is-image (Some []) is = elim is [ inl h ↦ absurd h | inr h ↦ absurd h ]
is-image (Some (v ∷ vs)) is = elim is [ inl h ↦ absurd h | inr h ↦ h ]

at-image : IsReaderOf bytes_of_image (λ i. IsGone i ⊎ IsThere i) IsEnd image_at
at-image =
    one-or-other bytes_of_image IsGone IsThere (made-into bytes_of_image IsGone gone the-word gone-parts (λ x is. (tt, refl))) (made-into bytes_of_image IsThere (λ row. Some row) rows there-parts (λ row is. (is, refl))) not-gone

pub images : IsReaderOf (λ i. word_text (bytes_of_image i)) IsImage IsEnd image
images = behind-word (codes " ") (said-as IsImage IsEnd at-image image-is is-image (λ rest end. end))
