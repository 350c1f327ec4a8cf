-- `*`, written as the columns of the table.
use Rattle.std.proofs.Common.{◌≡◌, inl, inr, ℕ, ◌+◌, nat_eq, Bool, true, false, ◌||◌, if◌then◌else◌, List, [], ◌∷◌, ◌++◌, length, map, Option, Some, Ok, Err, ok_or, refl, sym, ◌∙◌, ap, subst, arith, append_assoc}
use Rattle.std.specs.List.{flat_map, list_any}
use Rattle.std.specs.Cmp.Lexicographic.{pointwise}
use Rattle.gx_tree.specs.declared.schema.Column.{Column}
use Rattle.gx_tree.specs.declared.schema.Kind.{Kind}
use Rattle.gx_tree.specs.declared.query.Item.TheVariants as item
use Rattle.gx_lines.specs.declared.syn.ItemSyn.{ItemSyn}
use Rattle.gx_resolve.specs.Columns.{column_from, column_of}
use Rattle.gx_resolve.specs.declared.fault.NameFault.TheVariants.{UnknownColumn}
use Rattle.gx_resolve.specs.Results.{◌>>=◌, each}
use Rattle.gx_resolve.specs.Naming.{Used, item_names, is_column, names_right}
use Rattle.gx_resolve.specs.Kinding.{column_at}
use Rattle.gx_resolve.specs.Selecting.{item_as, columns_from, is_aggregate}
use Rattle.gx_meaning.specs.Statements.{IsOneOf, AreDistinct, column_text}
use Rattle.gx_print.specs.Written.{column_name, item_syn_of}
use Rattle.gx_print.proofs.Tidied.{column_item}
use Rattle.gx_print.proofs.Tidying.{same_text}
use Rattle.gx_print.proofs.Resolved.{goes}

by_true : {A : Type 0} (c : Bool) (x y : A) → c ≡ true → (if c then x else y) ≡ x
by_true c x y e = grind arith

by_false : {A : Type 0} (c : Bool) (x y : A) → c ≡ false → (if c then x else y) ≡ y
by_false c x y e = grind arith

byte_refl : (x : ℕ) → nat_eq x x ≡ true
byte_refl x = grind arith

pub text_refl : (n : List ℕ) → pointwise nat_eq n n ≡ true
text_refl [] = refl
text_refl (x ∷ xs) = grind (arith, byte_refl x, text_refl xs)

or_true : (a b : Bool) → a ≡ true → (a || b) ≡ true
or_true a b e = grind arith

or_later : (a b : Bool) → b ≡ true → (a || b) ≡ true
or_later a b e = grind arith

column_known : (before cs : List Column) (c : Column) → is_column (before ++ c ∷ cs) c.name ≡ true
column_known [] cs c = or_true (pointwise nat_eq c.name c.name) (is_column cs c.name) (text_refl c.name)
column_known (x ∷ xs) cs c = or_later (pointwise nat_eq x.name c.name) (is_column (xs ++ c ∷ cs) c.name) (column_known xs cs c)

longer : (before cs : List Column) (c : Column) → before ++ c ∷ cs ≡ (before ++ c ∷ []) ++ cs
longer before cs c = sym (append_assoc before (c ∷ []) cs)

count_more : (before : List Column) (c : Column) → length (before ++ c ∷ []) ≡ length before + 1
count_more [] c = omega arith
count_more (x ∷ xs) c = omega (arith, count_more xs c)

module _ (columns : List Column) where
  -- the names of all columns are right
  pub columns_skipped : (before cs : List Column) (given rest : List (List ℕ)) → columns ≡ before ++ cs → names_right columns given (map Used (flat_map item_names (map column_item cs) ++ rest)) ≡ names_right columns given (map Used rest)
  columns_skipped before [] given rest e = refl
  columns_skipped before (c ∷ cs) given rest e =
      by_true (is_column columns c.name) (names_right columns given (map Used (flat_map item_names (map column_item cs) ++ rest))) (Err UnknownColumn) (subst (λ (xs : List Column). is_column xs c.name ≡ true) (sym e) (column_known before cs c))
      ∙ columns_skipped (before ++ c ∷ []) cs given rest (e ∙ longer before cs c)

  name_there : (before cs : List Column) (c : Column) → column_name (before ++ c ∷ cs) (length before) ≡ c.name
  name_there [] cs c = refl
  name_there (x ∷ xs) cs c = name_there xs cs c

  pub columns_written : (before cs : List Column) (place : ℕ) → columns ≡ before ++ cs → place ≡ length before → map (item_syn_of columns) (columns_from place cs) ≡ map column_item cs
  columns_written before [] place e l = refl
  columns_written before (c ∷ cs) place e l =
      let n : column_name columns place ≡ c.name = subst (λ (p : ℕ). column_name columns p ≡ c.name) (sym l) (subst (λ (xs : List Column). column_name xs (length before) ≡ c.name) (sym e) (name_there before cs c)) in
      let m : place + 1 ≡ length (before ++ c ∷ []) = omega (arith, count_more before c) in
      ap (λ (x : List ℕ). let y : Column = record c { name = x } in column_item y ∷ map (item_syn_of columns) (columns_from (place + 1) cs)) n
      ∙ ap (λ (xs : List ItemSyn). column_item c ∷ xs) (columns_written (before ++ c ∷ []) cs (place + 1) (e ∙ longer before cs c) m)

one_of : (before cs : List Column) (c : Column) (n : List ℕ) → n ≡ c.name → IsOneOf n (map column_text (before ++ c ∷ cs))
one_of [] cs c n e = inl e
one_of (x ∷ xs) cs c n e = inr (one_of xs cs c n e)

differs : (x : Column) (before cs : List Column) (c : Column) (b : Bool) → pointwise nat_eq x.name c.name ≡ b → (IsOneOf x.name (map column_text (before ++ c ∷ cs)) → ⊥) → b ≡ false
differs x before cs c true e d = absurd (d (one_of before cs c x.name (same_text x.name c.name e)))
differs x before cs c false e d = refl

found_at : (before cs : List Column) (c : Column) (from : ℕ) → AreDistinct (map column_text (before ++ c ∷ cs)) → column_from from c.name (before ++ c ∷ cs) ≡ Some (from + length before, c.kind)
found_at [] cs c from d =
    let same : from ≡ from + 0 = omega arith in
    by_true (pointwise nat_eq c.name c.name) (Some (from, c.kind)) (column_from (from + 1) c.name cs) (text_refl c.name) ∙ ap (λ (n : ℕ). let p : ℕ × Kind = (n, c.kind) in Some p) same
found_at (x ∷ xs) cs c from d =
    let same : (from + 1) + length xs ≡ from + length (x ∷ xs) = omega arith in
    by_false (pointwise nat_eq x.name c.name) (Some (from, x.kind)) (column_from (from + 1) c.name (xs ++ c ∷ cs)) (differs x xs cs c (pointwise nat_eq x.name c.name) refl d.0)
    ∙ found_at xs cs c (from + 1) d.1 ∙ ap (λ (n : ℕ). let p : ℕ × Kind = (n, c.kind) in Some p) same

module _ (columns : List Column) (distinct : AreDistinct (map column_text columns)) where
  column_answer : (before cs : List Column) (c : Column) (place : ℕ) → columns ≡ before ++ c ∷ cs → place ≡ length before → column_at columns c.name ≡ Ok (place, c.kind)
  column_answer before cs c place e l =
      let d : AreDistinct (map column_text (before ++ c ∷ cs)) = subst (λ (xs : List Column). AreDistinct (map column_text xs)) e distinct in
      let same : 0 + length before ≡ place = omega arith in
      ap (λ (xs : List Column). ok_or (column_of c.name xs) UnknownColumn) e ∙ ap (λ (o : Option (ℕ × Kind)). ok_or o UnknownColumn) (found_at before cs c 0 d) ∙ ap (λ (n : ℕ). let p : ℕ × Kind = (n, c.kind) in Ok p) same

  pub columns_again : (before cs : List Column) (place : ℕ) → columns ≡ before ++ cs → place ≡ length before → each (item_as columns) (map column_item cs) ≡ Ok (columns_from place cs)
  columns_again before [] place e l = refl
  columns_again before (c ∷ cs) place e l =
      let m : place + 1 ≡ length (before ++ c ∷ []) = omega (arith, count_more before c) in
      goes (item_as columns (column_item c)) (λ y. each (item_as columns) (map column_item cs) >>= λ ys. Ok (y ∷ ys)) (item.Col place) (columns_from place (c ∷ cs))
      (goes (column_at columns c.name) (λ x. Ok (item.Col x.0)) (place, c.kind) (item.Col place) (column_answer before cs c place e l) refl)
      (goes (each (item_as columns) (map column_item cs)) (λ ys. Ok (item.Col place ∷ ys)) (columns_from (place + 1) cs) (columns_from place (c ∷ cs)) (columns_again (before ++ c ∷ []) cs (place + 1) (e ∙ longer before cs c) m) refl)

pub no_aggregate : (cs : List Column) → list_any is_aggregate (map column_item cs) ≡ false
no_aggregate [] = refl
no_aggregate (c ∷ cs) = no_aggregate cs
