-- The lines of tables are read as they are printed.
use Rattle.std.proofs.Common.{◌≡◌, ℕ, ◌^◌, ◌<◌, Bool, true, false, ◌&&◌, if◌then◌else◌, List, [], ◌∷◌, ◌++◌, map, codes, Option, Some, None, refl, sym, ◌∙◌, ap, subst, arith}
use Rattle.std.specs.Prelude.{option_and_then, All}
use Rattle.std.specs.List.{flat_map}
use Rattle.std.proofs.lemmas.List.Elements.{All-nil}
use Rattle.std.proofs.lemmas.Option.{none-some, some_pair_parts, option_and_then_some}
use Rattle.gx_meaning.specs.Aggregates.{cell_of}
use Rattle.gx_meaning.specs.Kinds.{kinds_of, value_kind}
use Rattle.gx_msg.specs.ItemBytes.{behind_bar, bytes_of_row, bytes_of_value}
use Rattle.gx_report.specs.Text.{behind_bar as cell_behind_bar, cell_text, cells_text}
use Rattle.gx_tree.specs.declared.schema.Column.{Column}
use Rattle.gx_tree.specs.declared.schema.Kind.{Kind}
use Rattle.gx_tree.specs.declared.schema.Kind.TheVariants as kind
use Rattle.gx_tree.specs.declared.schema.Schema.{Schema}
use Rattle.gx_tree.specs.declared.value.Value.{Value}
use Rattle.gx_tree.specs.declared.value.Value.TheVariants as value
use Rattle.gx_trace.specs.Lawful.{IsValue}
use Rattle.gx_trace.specs.Readers.{Front, EndsNumber, IsEnd, IsReaderOf}
use Rattle.gx_trace.specs.Shown.{IsRowOf, kind_of}
use Rattle.gx_trace.specs.Values.{values}
use Rattle.gx_trace.proofs.ReadFields.{counts}
use Rattle.gx_trace.proofs.Readers.{behind-word}
use Rattle.gx_trace.proofs.Rows.{IsRow, rows}
use Rattle.gx_trace.proofs.Wholes.{text-said-as}
use Rattle.gx_trace.proofs.Words.{if-true}
use Rattle.gx_trace_lines.specs.Tables.{has_kind, has_kinds, kept_kinds, row_of_kinds, table_head, table_head_text, table_row, table_row_text, values_if_any}

pub table-heads : (name : List ℕ) → IsReaderOf (table_head_text name) (λ rows. rows < 2 ^ 64) EndsNumber (table_head name)
table-heads name = behind-word (codes "table ") (behind-word name counts)

-- KINDS
one-kind : (k : Kind) (v : Value) → has_kind k v ≡ true → value_kind v ≡ k
one-kind kind.Int (value.Int z) e = refl
one-kind kind.Int (value.Text t) e = absurd (grind (arith, e))
one-kind kind.Text (value.Int z) e = absurd (grind (arith, e))
one-kind kind.Text (value.Text t) e = refl

kind-of-one : (v : Value) → has_kind (value_kind v) v ≡ true
kind-of-one (value.Int z) = refl
kind-of-one (value.Text t) = refl

both-true : (p q : Bool) → p ≡ true → q ≡ true → (p && q) ≡ true
both-true p q e f = grind (arith, e, f)

first-true : (p q : Bool) → (p && q) ≡ true → p ≡ true
first-true p q e = grind (arith, e)

second-true : (p q : Bool) → (p && q) ≡ true → q ≡ true
second-true p q e = grind (arith, e)

kinds-sound : (columns : List Column) (vs : List Value) → has_kinds columns vs ≡ true → kinds_of vs ≡ map kind_of columns
kinds-sound [] [] e = refl
kinds-sound [] (v ∷ vs) e = absurd (grind (arith, e))
kinds-sound (c ∷ cs) [] e = absurd (grind (arith, e))
kinds-sound (c ∷ cs) (v ∷ vs) e =
    let p = one-kind c.kind v (first-true (has_kind c.kind v) (has_kinds cs vs) e) in
    let q = kinds-sound cs vs (second-true (has_kind c.kind v) (has_kinds cs vs) e) in
    (λ i. p i ∷ q i)

head-kind : (k j : Kind) (ks js : List Kind) → k ∷ ks ≡ j ∷ js → k ≡ j
head-kind k j ks js e = cc

tail-kinds : (k j : Kind) (ks js : List Kind) → k ∷ ks ≡ j ∷ js → ks ≡ js
tail-kinds k j ks js e = cc

no-nil : (k : Kind) (ks : List Kind) → k ∷ ks ≡ [] → ⊥
no-nil k ks e = absurd (grind (arith, e))

kinds-again : (columns : List Column) (vs : List Value) → kinds_of vs ≡ map kind_of columns → has_kinds columns vs ≡ true
kinds-again [] [] e = refl
kinds-again [] (v ∷ vs) e = absurd (no-nil (value_kind v) (kinds_of vs) e)
kinds-again (c ∷ cs) [] e = absurd (no-nil c.kind (map kind_of cs) (sym e))
kinds-again (c ∷ cs) (v ∷ vs) e =
    both-true (has_kind c.kind v) (has_kinds cs vs) (subst (λ k. has_kind k v ≡ true) (head-kind (value_kind v) c.kind (kinds_of vs) (map kind_of cs) e) (kind-of-one v))
    (kinds-again cs vs (tail-kinds (value_kind v) c.kind (kinds_of vs) (map kind_of cs) e))

-- ROWS
value-text : (v : Value) → cell_text (cell_of v) ≡ bytes_of_value v
value-text (value.Int z) = refl
value-text (value.Text t) = refl

others-text : (vs : List Value) → flat_map cell_behind_bar (map cell_of vs) ≡ flat_map behind_bar vs
others-text [] = refl
others-text (v ∷ vs) = (λ i. (codes "|" ++ value-text v i) ++ others-text vs i)

row-text : (vs : List Value) → cells_text (map cell_of vs) ≡ bytes_of_row vs
row-text [] = refl
row-text (v ∷ vs) = (λ i. value-text v i ++ others-text vs i)

begins-so : (bytes : List ℕ) (vs : List Value) (rest : List ℕ) → values bytes ≡ Some (vs, rest) → values_if_any bytes ≡ Some (vs, rest)
begins-so [] vs rest e = absurd (none-some _ e)
begins-so (b ∷ bs) vs rest e = e

any-again : (vs : List Value) (rest : List ℕ) → All IsValue vs → IsEnd rest → values_if_any (bytes_of_row vs ++ rest) ≡ Some (vs, rest)
any-again [] rest all end = ap values_if_any end ∙ ap (λ y. Some ([], y)) (sym end)
any-again (v ∷ vs) rest all end = begins-so (bytes_of_row (v ∷ vs) ++ rest) (v ∷ vs) rest (rows.again (v ∷ vs) rest all end)

row-values : (vs : List Value) → IsRow vs → All IsValue vs
row-values [] is = absurd is
row-values (v ∷ vs) is = is

any-sound : (bytes rest : List ℕ) (vs : List Value) → values_if_any bytes ≡ Some (vs, rest) → All IsValue vs × (bytes ≡ bytes_of_row vs ++ rest)
any-sound [] rest vs e =
    let (p, q) = some_pair_parts [] vs [] rest e in
    (subst (All IsValue) p (All-nil IsValue), (λ i. bytes_of_row (p i) ++ q i))
any-sound (b ∷ bs) rest vs e = let (is, t) = rows.sound (b ∷ bs) rest vs e in (row-values vs is, t)

kept-by : (vs us : List Value) (left rest : List ℕ) (c : Bool) → ◌≡◌ {A = Front (List Value)} (if c then Some (vs, left) else None) (Some (us, rest)) → (c ≡ true) × (vs ≡ us) × (left ≡ rest)
kept-by vs us left rest false e = absurd (none-some _ e)
kept-by vs us left rest true e = let (p, q) = some_pair_parts vs us left rest e in (refl, p, q)

rows-of : (schema : Schema) → IsReaderOf bytes_of_row (IsRowOf schema) IsEnd (row_of_kinds schema.columns)
rows-of schema = record {
  again = λ vs rest is end.
      ap (option_and_then (kept_kinds schema.columns)) (any-again vs rest is.values end) ∙ if-true (has_kinds schema.columns vs) (Some (vs, rest)) None (kinds-again schema.columns vs is.kinds);
  sound = λ bytes rest vs e. option_and_then_some (kept_kinds schema.columns) (values_if_any bytes) (vs, rest) e (λ x is kept.
      let (fits, p, q) = kept-by x.0 vs x.1 rest (has_kinds schema.columns x.0) kept in
      let (all, t) = any-sound bytes x.1 x.0 is in
      (subst (IsRowOf schema) p (record { kinds = kinds-sound schema.columns x.0 fits; values = all }), t ∙ (λ i. bytes_of_row (p i) ++ q i)));
}

pub table-rows : (schema : Schema) → IsReaderOf table_row_text (IsRowOf schema) IsEnd (table_row schema.columns)
table-rows schema = behind-word (codes "  ") (text-said-as (λ row. cells_text (map cell_of row)) (rows-of schema) (λ row is. row-text row))
