-- The aggregates over two lists of rows give those over both, in either order.
use Rattle.std.proofs.Common.{ℕ, ◌≡◌, ◌∙◌, Bool, true, false, cond, not, List, [], ◌∷◌, ◌++◌, length, refl, ap, sym, arith, append-nil, append_assoc, length-append}
use Rattle.std.proofs.Math.IntN.{+ℤ_assoc, +ℤ_comm, +ℤ_idl}
use Rattle.std.proofs.lemmas.List.Concat.{flat_map-append}
use Rattle.std.proofs.lemmas.Int.{int_wrap-add_left, int_wrap-add_right}
use Rattle.std.specs.Int.{int_wrap, w128}
use Rattle.std.specs.List.{flat_map}
use Rattle.std.specs.Option.{option_to_list}
use Rattle.std.specs.Cmp.Lexicographic.{slice_cmp}
use Rattle.std.specs.Ordering.{int_cmp, is_gt, nat_cmp}
use Rattle.std.specs.Prelude.{ℤ, pos, ◌+ℤ◌, Option, None, Some, map, slice_get}
use Rattle.gx_tree.specs.declared.cell.Cell.TheVariants as cell
use Rattle.gx_tree.specs.declared.query.Item.{Item}
use Rattle.gx_tree.specs.declared.query.Item.TheVariants.{Col, Count, Sum, Min, Max}
use Rattle.gx_tree.specs.declared.row.KeyedRow.{KeyedRow}
use Rattle.gx_tree.specs.declared.value.Value.{Value}
use Rattle.gx_tree.specs.declared.value.Value.TheVariants.{Int, Text}
use Rattle.gx_meaning.specs.Aggregates.{aggregate, cell_at, cell_of, chosen, column, either, greater, lesser, number_cell, numbers_in, sum_cell, total}
use Rattle.gx_meaning.specs.Cells.{add, combine, combine_all, greater_cell, lesser_cell}
use Rattle.gx_gather.proofs.Choices.{greatest-append, greatest-comm, least-append, least-comm}

column-append : (place : ℕ) (xs ys : List KeyedRow) → column place (xs ++ ys) ≡ column place xs ++ column place ys
column-append place xs ys = flat_map-append (λ row. option_to_list (slice_get row.row place)) xs ys

-- ---- sums
total-append : (xs ys : List ℤ) → total (xs ++ ys) ≡ total xs +ℤ total ys
total-append [] ys = sym (+ℤ_idl (total ys))
total-append (x ∷ xs) ys = ap (λ t. x +ℤ t) (total-append xs ys) ∙ sym (+ℤ_assoc x (total xs) (total ys))

abbrev numbers : ℕ → List KeyedRow → List ℤ
numbers place rows = flat_map numbers_in (column place rows)

numbers-append : (place : ℕ) (xs ys : List KeyedRow) → numbers place (xs ++ ys) ≡ numbers place xs ++ numbers place ys
numbers-append place xs ys = ap (flat_map numbers_in) (column-append place xs ys) ∙ flat_map-append numbers_in (column place xs) (column place ys)

wrapped-add : (a b : ℤ) → int_wrap w128 (int_wrap w128 a +ℤ int_wrap w128 b) ≡ int_wrap w128 (a +ℤ b)
wrapped-add a b = int_wrap-add_left w128 a (int_wrap w128 b) ∙ int_wrap-add_right w128 a b

sum_cell-append : (xs ys : List ℤ) → add (sum_cell xs) (sum_cell ys) ≡ sum_cell (xs ++ ys)
sum_cell-append [] ys = refl
sum_cell-append (x ∷ xs) [] = ap (λ l. sum_cell (x ∷ l)) (sym (append-nil xs))
sum_cell-append (x ∷ xs) (y ∷ ys) =
    ap cell.Int (wrapped-add (total (x ∷ xs)) (total (y ∷ ys)) ∙ ap (int_wrap w128) (sym (total-append (x ∷ xs) (y ∷ ys))))

sum_cell-comm : (xs ys : List ℤ) → sum_cell (xs ++ ys) ≡ sum_cell (ys ++ xs)
sum_cell-comm [] ys = ap sum_cell (sym (append-nil ys))
sum_cell-comm (x ∷ xs) [] = ap sum_cell (append-nil (x ∷ xs))
sum_cell-comm (x ∷ xs) (y ∷ ys) = ap number_cell (total-append (x ∷ xs) (y ∷ ys) ∙ +ℤ_comm (total (x ∷ xs)) (total (y ∷ ys)) ∙ sym (total-append (y ∷ ys) (x ∷ xs)))

-- ---- counts
count-append : (xs ys : List KeyedRow) → add (number_cell (pos (length xs))) (number_cell (pos (length ys))) ≡ number_cell (pos (length (xs ++ ys)))
count-append xs ys =
    ap cell.Int (wrapped-add (pos (length xs)) (pos (length ys)) ∙ ap (λ n. int_wrap w128 (pos n)) (sym (length-append xs ys)))

-- ---- the lesser and the greater
cell-cond : (b : Bool) (u v : Value) → cond b (cell_of u) (cell_of v) ≡ cell_of (cond b u v)
cell-cond true u v = refl
cell-cond false u v = refl

cell-cond_not : (b : Bool) (u v : Value) → cond (not b) (cell_of u) (cell_of v) ≡ cell_of (cond b v u)
cell-cond_not true u v = refl
cell-cond_not false u v = refl

lesser_values : (a b : Value) → lesser_cell (cell_of a) (cell_of b) ≡ cell_of (lesser a b)
lesser_values (Int m) (Int n) = cell-cond (is_gt (int_cmp m n)) (Int n) (Int m)
lesser_values (Int m) (Text t) = refl
lesser_values (Text s) (Int n) = refl
lesser_values (Text s) (Text t) = cell-cond (is_gt (slice_cmp nat_cmp s t)) (Text t) (Text s)

greater_values : (a b : Value) → greater_cell (cell_of a) (cell_of b) ≡ cell_of (greater a b)
greater_values (Int m) (Int n) = cell-cond_not (is_gt (int_cmp m n)) (Int n) (Int m)
greater_values (Int m) (Text t) = refl
greater_values (Text s) (Int n) = refl
greater_values (Text s) (Text t) = cell-cond_not (is_gt (slice_cmp nat_cmp s t)) (Text t) (Text s)

lesser-cells : (a b : Option Value) → lesser_cell (cell_at a) (cell_at b) ≡ cell_at (either lesser a b)
lesser-cells None b = refl
lesser-cells (Some (Int m)) None = refl
lesser-cells (Some (Text t)) None = refl
lesser-cells (Some a) (Some b) = lesser_values a b

greater-cells : (a b : Option Value) → greater_cell (cell_at a) (cell_at b) ≡ cell_at (either greater a b)
greater-cells None b = refl
greater-cells (Some (Int m)) None = refl
greater-cells (Some (Text t)) None = refl
greater-cells (Some a) (Some b) = greater_values a b

-- ---- each aggregate
pub aggregate-append : (item : Item) (xs ys : List KeyedRow) → combine item (aggregate xs item) (aggregate ys item) ≡ aggregate (xs ++ ys) item
aggregate-append (Col place) xs ys = refl
aggregate-append Count xs ys = count-append xs ys
aggregate-append (Sum place) xs ys = sum_cell-append (numbers place xs) (numbers place ys) ∙ ap sum_cell (sym (numbers-append place xs ys))
aggregate-append (Min place) xs ys =
    lesser-cells (chosen lesser (column place xs)) (chosen lesser (column place ys)) ∙ ap cell_at (sym (least-append (column place xs) (column place ys)) ∙ ap (chosen lesser) (sym (column-append place xs ys)))
aggregate-append (Max place) xs ys =
    greater-cells (chosen greater (column place xs)) (chosen greater (column place ys)) ∙ ap cell_at (sym (greatest-append (column place xs) (column place ys)) ∙ ap (chosen greater) (sym (column-append place xs ys)))

pub aggregate-comm : (item : Item) (xs ys : List KeyedRow) → aggregate (xs ++ ys) item ≡ aggregate (ys ++ xs) item
aggregate-comm (Col place) xs ys = refl
aggregate-comm Count xs ys = ap (λ n. number_cell (pos n)) (length-append xs ys ∙ omega arith ∙ sym (length-append ys xs))
aggregate-comm (Sum place) xs ys = ap sum_cell (numbers-append place xs ys) ∙ sum_cell-comm (numbers place xs) (numbers place ys) ∙ ap sum_cell (sym (numbers-append place ys xs))
aggregate-comm (Min place) xs ys = ap cell_at (ap (chosen lesser) (column-append place xs ys) ∙ least-comm (column place xs) (column place ys) ∙ ap (chosen lesser) (sym (column-append place ys xs)))
aggregate-comm (Max place) xs ys = ap cell_at (ap (chosen greater) (column-append place xs ys) ∙ greatest-comm (column place xs) (column place ys) ∙ ap (chosen greater) (sym (column-append place ys xs)))

-- a row may stand first
pub aggregate-move : (item : Item) (xs : List KeyedRow) (x : KeyedRow) (ys : List KeyedRow) → aggregate (xs ++ x ∷ ys) item ≡ aggregate (x ∷ xs ++ ys) item
aggregate-move item xs x ys =
    ap (λ l. aggregate l item) (sym (append_assoc xs (x ∷ []) ys))
    ∙ sym (aggregate-append item (xs ++ x ∷ []) ys)
    ∙ ap (λ a. combine item a (aggregate ys item)) (aggregate-comm item xs (x ∷ []))
    ∙ aggregate-append item (x ∷ xs) ys

-- the same behind one row
pub aggregate-behind : (item : Item) (x : KeyedRow) (xs ys : List KeyedRow) → aggregate xs item ≡ aggregate ys item → aggregate (x ∷ xs) item ≡ aggregate (x ∷ ys) item
aggregate-behind item x xs ys same = sym (aggregate-append item (x ∷ []) xs) ∙ ap (combine item (aggregate (x ∷ []) item)) same ∙ aggregate-append item (x ∷ []) ys

pub aggregates-append : (items : List Item) (xs ys : List KeyedRow) → combine_all items (map (aggregate xs) items) (map (aggregate ys) items) ≡ map (aggregate (xs ++ ys)) items
aggregates-append [] xs ys = refl
aggregates-append (item ∷ items) xs ys =
    ap (λ c. c ∷ combine_all items (map (aggregate xs) items) (map (aggregate ys) items)) (aggregate-append item xs ys) ∙ ap (λ l. aggregate (xs ++ ys) item ∷ l) (aggregates-append items xs ys)
