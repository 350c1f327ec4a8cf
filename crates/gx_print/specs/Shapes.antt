-- The bytes of a way of writing an expression.
use Rattle.std.specs.Prelude.{◌≡◌, ℕ, ◌≤◌, ◌==◌, nat_le, Bool, ◌&&◌, ◌||◌, List, [], ◌++◌, codes, Option, Some, None}
use Rattle.std.specs.Fmt.{decimal}
use Rattle.gx_lex.specs.Words.{keyword_of}
use Rattle.gx_lex.specs.Lexing.{is_digit, Begins}
use Rattle.gx_text.specs.Quoted.{quoted}
use Rattle.gx_grammar.specs.declared.syn.Op.{Op}
use Rattle.gx_grammar.specs.declared.syn.Op.TheVariants.{Or, And, Equal, NotEqual, Less, LessEqual, Greater, GreaterEqual, Add, Sub, Mul, Div, Rem}
use Rattle.gx_grammar.specs.Grammar.{Shape, digits, minus_digits, text, column, parens, minus, negated, both}

-- a number in decimal; one of more than 64 bits has no printed form
abbrev pub number_text : Option ℕ → List ℕ
number_text None = []
number_text (Some n) = decimal n

abbrev pub op_text : Op → List ℕ
op_text Or = codes "OR"
op_text And = codes "AND"
op_text Equal = codes "="
op_text NotEqual = codes "<>"
op_text Less = codes "<"
op_text LessEqual = codes "<="
op_text Greater = codes ">"
op_text GreaterEqual = codes ">="
op_text Add = codes "+"
op_text Sub = codes "-"
op_text Mul = codes "*"
op_text Div = codes "/"
op_text Rem = codes "%"

-- one space between tokens, but none behind a parenthesis that opens, before one that closes, and behind a minus sign before its operand
abbrev pub shape_text : Shape → List ℕ
shape_text (digits n) = number_text n
shape_text (minus_digits n) = codes "-" ++ number_text n
shape_text (text t) = quoted t
shape_text (column c) = c
shape_text (parens s) = codes "(" ++ (shape_text s ++ codes ")")
shape_text (minus s) = codes "-" ++ shape_text s
shape_text (negated s) = codes "NOT " ++ shape_text s
shape_text (both op a b) = shape_text a ++ (codes " " ++ (op_text op ++ (codes " " ++ shape_text b)))

abbrev pub is_small_letter : ℕ → Bool
is_small_letter b = nat_le 97 b && nat_le b 122

abbrev pub is_name_byte : ℕ → Bool
is_name_byte b = is_small_letter b || (is_digit b || (b == 95))

-- a letter, then letters, digits and underscores, all in small, and no keyword
abbrev pub IsName : List ℕ → Type 0
IsName n = Begins is_small_letter is_name_byte n × (keyword_of n ≡ None)

-- a number of 64 bits
abbrev pub IsNumber : Option ℕ → Type 0
IsNumber None = ⊥
IsNumber (Some n) = n ≤ 18446744073709551615

-- its names are names of the language, and its numbers have 64 bits
abbrev pub IsClear : Shape → Type 0
IsClear (digits n) = IsNumber n
IsClear (minus_digits n) = IsNumber n
IsClear (text t) = Unit {0}
IsClear (column c) = IsName c
IsClear (parens s) = IsClear s
IsClear (minus s) = IsClear s
IsClear (negated s) = IsClear s
IsClear (both op a b) = IsClear a × IsClear b
