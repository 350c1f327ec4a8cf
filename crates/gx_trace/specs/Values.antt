-- Values, images and rows where they stand.
use Rattle.std.specs.Prelude.{ℕ, zero, suc, ◌^◌, ◌==◌, nat_lt, Bool, true, false, ℤ, pos, negsuc, if◌then◌else◌, List, [], ◌∷◌, ◌++◌, Option, Some, None, option_and_then, codes}
use Rattle.std.specs.Option.{option_map}
use Rattle.gx_tree.specs.declared.value.Value.{Value}
use Rattle.gx_tree.specs.declared.value.Value.TheVariants as value
use Rattle.gx_trace.specs.Readers.{Front, behind, both, either, made, number_to, to_end, word}

-- The bytes of a quoted text so far, and whether the last byte was a quote: a second one makes one in the text, anything else ends it. A line feed is in
-- no text.
abbrev pub text_on : Bool → List ℕ → List ℕ → Front (List ℕ)
text_on false acc [] = None
text_on true acc [] = Some (acc, [])
text_on false acc (b ∷ bs) = if b == 39 then text_on true acc bs else (if b == 10 then None else text_on false (acc ++ b ∷ []) bs)
text_on true acc (b ∷ bs) = if b == 39 then text_on false (acc ++ b ∷ []) bs else Some (acc, b ∷ bs)

abbrev pub text : List ℕ → Front (List ℕ)
text = behind (codes "'") (text_on false [])

-- the number behind a minus sign, which isn't 0, where half of all numbers have one
abbrev pub minus : ℕ → ℕ → Option ℤ
minus half zero = None
minus half (suc n) = if nat_lt n half then Some (negsuc n) else None

abbrev pub plus : ℕ → ℕ → Option ℤ
plus half n = if nat_lt n half then Some (pos n) else None

-- as what a number is taken
abbrev pub taken : (ℕ → Option ℤ) → ℕ × List ℕ → Front ℤ
taken f x = option_map (λ z. (z, x.1)) (f x.0)

abbrev pub positive : ℕ → ℕ → List ℕ → Front ℤ
positive limit half bytes = option_and_then (taken (plus half)) (number_to limit bytes)

abbrev pub negative : ℕ → ℕ → List ℕ → Front ℤ
negative limit half = behind (codes "-") (λ bytes. option_and_then (taken (minus half)) (number_to limit bytes))

abbrev pub whole : ℕ → ℕ → List ℕ → Front ℤ
whole limit half bytes = either (negative limit half bytes) (positive limit half bytes)

abbrev pub integer : List ℕ → Front ℤ
integer = whole (2 ^ 64) (2 ^ 63)

abbrev pub value_at : List ℕ → Front Value
value_at bytes = either (made value.Text (text bytes)) (made value.Int (integer bytes))

abbrev pub other_value : List ℕ → Front Value
other_value = behind (codes "|") value_at

abbrev pub joined : Value × List Value → List Value
joined x = x.0 ∷ x.1

-- values with bars between, to the end
abbrev pub values : List ℕ → Front (List Value)
values bytes = made joined (both value_at (to_end other_value) bytes)

abbrev pub gone : Unit {0} → Option (List Value)
gone x = None

-- the values of a row, or that it is gone
abbrev pub image_at : List ℕ → Front (Option (List Value))
image_at bytes = either (made gone (word (codes "gone") bytes)) (made (λ row. Some row) (values bytes))

abbrev pub image : List ℕ → Front (Option (List Value))
image = behind (codes " ") image_at
