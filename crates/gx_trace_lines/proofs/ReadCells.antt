-- Cells and the rows of answers are read as they are printed.
use Rattle.std.proofs.Common.{◌≡◌, ℕ, ◌^◌, ◌<◌, ◌==◌, false, ℤ, pos, negsuc, List, [], ◌∷◌, ◌++◌, codes, Some, None, refl, sym, ◌∙◌, ap, subst, inl, inr, arith}
use Rattle.std.specs.Prelude.{option_and_then, All, ◌⊎◌}
use Rattle.std.specs.List.{flat_map}
use Rattle.std.proofs.lemmas.List.{length-append}
use Rattle.std.proofs.lemmas.List.Elements.{All-cons, All-head, All-tail}
use Rattle.gx_lex.specs.Lexing.{is_digit}
use Rattle.gx_report.specs.Text.{behind_bar, cell_text, cells_text}
use Rattle.gx_tree.specs.declared.cell.Cell.{Cell}
use Rattle.gx_tree.specs.declared.cell.Cell.TheVariants as cell
use Rattle.gx_trace.specs.Lawful.{IsCell, IsLine, IsOutRow, IsSigned}
use Rattle.gx_trace.specs.Readers.{either, made, to_end, word, EndsNumber, IsEnd, IsReaderOf}
use Rattle.gx_trace.specs.Values.{text, text_on}
use Rattle.gx_trace.proofs.Alternatives.{one-or-other, said-as}
use Rattle.gx_trace.proofs.Many.{ends-read}
use Rattle.gx_trace.proofs.Readers.{behind-word, made-into, one-behind-other}
use Rattle.gx_trace.proofs.Rows.{EndsText, texts}
use Rattle.gx_trace.proofs.Wholes.{IsWithin, not-word, wholes}
use Rattle.gx_trace.proofs.Words.{word-again, word-sound}
use Rattle.gx_trace_lines.specs.Cells.{cell_at, cells, joined, null_of, other_cell, out_row, out_row_text, vast}

-- what is neither a digit nor a quote ends a cell
abbrev EndsCell : List ℕ → Type 0
EndsCell [] = Unit {0}
EndsCell (b ∷ bs) = (is_digit b ≡ false) × ((b == 39) ≡ false)

ends-number : (rest : List ℕ) → EndsCell rest → EndsNumber rest
ends-number [] ends = tt
ends-number (b ∷ bs) ends = ends.0

ends-text : (rest : List ℕ) → EndsCell rest → EndsText rest
ends-text [] ends = tt
ends-text (b ∷ bs) ends = ends.1

abbrev IsTextCell : Cell → Type 0
IsTextCell (cell.Text t) = IsLine t
IsTextCell _ = ⊥

abbrev IsNull : Cell → Type 0
IsNull cell.Null = Unit {0}
IsNull _ = ⊥

abbrev IsNumber : Cell → Type 0
IsNumber (cell.Int z) = IsWithin (2 ^ 127) z
IsNumber _ = ⊥

text-parts : (c : Cell) → IsTextCell c → (t : List ℕ) × (cell.Text t ≡ c) × IsLine t
text-parts (cell.Int z) is = absurd is
text-parts (cell.Text t) is = (t, refl, is)
text-parts cell.Null is = absurd is

number-parts : (c : Cell) → IsNumber c → (z : ℤ) × (cell.Int z ≡ c) × IsWithin (2 ^ 127) z
number-parts (cell.Int z) is = (z, refl, is)
number-parts (cell.Text t) is = absurd is
number-parts cell.Null is = absurd is

null-parts : (c : Cell) → IsNull c → (x : Unit {0}) × (null_of x ≡ c) × Unit {0}
null-parts (cell.Int z) is = absurd is
null-parts (cell.Text t) is = absurd is
null-parts cell.Null is = (tt, refl, tt)

text-cells : IsReaderOf cell_text IsTextCell EndsCell (λ bytes. made cell.Text (text bytes))
text-cells = said-as IsTextCell EndsCell (made-into cell_text IsTextCell cell.Text texts text-parts (λ t is. (is, refl))) (λ c is. is) (λ c is. is) ends-text

numbers : IsReaderOf cell_text IsNumber EndsCell (λ bytes. made cell.Int (vast bytes))
numbers =
    said-as IsNumber EndsCell (made-into cell_text IsNumber cell.Int (wholes (2 ^ 128) (2 ^ 127) (omega arith) (omega arith) (omega arith)) number-parts (λ z is. (is, refl))) (λ c is. is) (λ c is. is) ends-number

the-word : IsReaderOf (λ (x : Unit {0}). codes "null") (λ x. Unit {0}) EndsCell (word (codes "null"))
the-word = record { again = λ x rest is end. word-again (codes "null") rest; sound = λ bytes rest x e. (tt, word-sound (codes "null") bytes rest e) }

nulls : IsReaderOf cell_text IsNull EndsCell (λ bytes. made null_of (word (codes "null") bytes))
nulls = made-into cell_text IsNull null_of the-word null-parts (λ x is. (tt, refl))

not-null : (c : Cell) (rest : List ℕ) → IsNumber c → made null_of (word (codes "null") (cell_text c ++ rest)) ≡ None
not-null (cell.Int (pos n)) rest is = ap (made null_of) (not-word 110 (codes "ull") n rest (omega (arith, is)) (λ d l. grind arith))
not-null (cell.Int (negsuc n)) rest is = refl
not-null (cell.Text t) rest is = absurd is
not-null cell.Null rest is = absurd is

not-text : (c : Cell) (rest : List ℕ) → IsNull c ⊎ IsNumber c → made cell.Text (text (cell_text c ++ rest)) ≡ None
not-text (cell.Int (pos n)) rest is = elim is [ inl h ↦ absurd h | inr h ↦ ap (λ o. made cell.Text (option_and_then (λ x. text_on false [] x.1) o)) (not-word 39 [] n rest (omega (arith, h)) (λ d l. grind arith)) ]
not-text (cell.Int (negsuc n)) rest is = refl
not-text (cell.Text t) rest is = elim is [ inl h ↦ absurd h | inr h ↦ absurd h ]
not-text cell.Null rest is = refl

within : (z : ℤ) → IsSigned 127 z → IsWithin (2 ^ 127) z
within (pos n) is = is
within (negsuc n) is = is

signed : (z : ℤ) → IsWithin (2 ^ 127) z → IsSigned 127 z
signed (pos n) is = is
signed (negsuc n) is = is

cell-is : (c : Cell) → IsCell c → IsTextCell c ⊎ (IsNull c ⊎ IsNumber c)
cell-is (cell.Int z) is = inr (inr (within z is))
cell-is (cell.Text t) is = inl is
cell-is cell.Null is = inr (inl tt)

is-cell : (c : Cell) → IsTextCell c ⊎ (IsNull c ⊎ IsNumber c) → IsCell c
is-cell (cell.Int z) is = elim is [ inl h ↦ absurd h | inr h ↦ elim h [ inl k ↦ absurd k | inr k ↦ signed z k ] ]
is-cell (cell.Text t) is = elim is [ inl h ↦ h | inr h ↦ elim h [ inl k ↦ absurd k | inr k ↦ absurd k ] ]
is-cell cell.Null is = tt

one-cell : IsReaderOf cell_text IsCell EndsCell cell_at
one-cell =
    said-as IsCell EndsCell
    (one-or-other cell_text IsTextCell (λ c. IsNull c ⊎ IsNumber c) text-cells (one-or-other cell_text IsNull IsNumber nulls numbers not-null) not-text)
    cell-is is-cell (λ rest ends. ends)

more-cells : IsReaderOf (flat_map behind_bar) (All IsCell) IsEnd (to_end other_cell)
more-cells =
    ends-read (behind-word (codes "|") one-cell)
    (record { begins = λ c is. omega (arith, length-append (codes "|") (cell_text c)); follows = λ c rest is. (refl, refl); last = tt })

bar-behind : (cs : List Cell) (rest : List ℕ) → All IsCell cs → IsEnd rest → EndsCell (flat_map behind_bar cs ++ rest)
bar-behind [] rest all end = subst EndsCell (sym end) tt
bar-behind (c ∷ cs) rest all end = (refl, refl)

row-parts : (row : List Cell) → IsOutRow row → (x : Cell × List Cell) × (joined x ≡ row) × (IsCell x.0 × All IsCell x.1)
row-parts [] is = absurd is
row-parts (c ∷ cs) is = ((c, cs), refl, (All-head IsCell c cs is, All-tail IsCell c cs is))

pub rows : IsReaderOf cells_text IsOutRow IsEnd cells
rows = made-into cells_text IsOutRow joined (one-behind-other one-cell more-cells bar-behind) row-parts (λ x is. (All-cons IsCell x.0 x.1 is.0 is.1, refl))

pub out-rows : IsReaderOf out_row_text IsOutRow IsEnd out_row
out-rows = behind-word (codes "  ") rows
