-- The parts of a statement that was resolved are written as they were read, but tidied, and resolved again to the same.
use Rattle.std.proofs.Common.{◌≡◌, ℕ, Bool, List, [], ◌∷◌, map, Option, Some, None, Ok, Err, ok_or, refl, ◌∙◌, ap, subst}
use Rattle.std.specs.Option.{option_map}
use Rattle.gx_tree.specs.declared.schema.Column.{Column}
use Rattle.gx_tree.specs.declared.schema.Kind.{Kind}
use Rattle.gx_tree.specs.declared.schema.Kind.TheVariants as kind
use Rattle.gx_tree.specs.declared.expr.Expr.{Expr}
use Rattle.gx_tree.specs.declared.cond.Cond.{Cond}
use Rattle.gx_tree.specs.declared.query.Item.{Item}
use Rattle.gx_tree.specs.declared.query.Item.TheVariants as item
use Rattle.gx_tree.specs.declared.query.Key.{Key}
use Rattle.gx_tree.specs.declared.stmt.Assign.{Assign}
use Rattle.gx_grammar.specs.declared.syn.Syn.{Syn}
use Rattle.gx_lines.specs.declared.classes.Agg.{Agg}
use Rattle.gx_lines.specs.declared.classes.Agg.TheVariants as agg
use Rattle.gx_lines.specs.declared.classes.Direction.{Direction}
use Rattle.gx_lines.specs.declared.classes.Direction.TheVariants as direction
use Rattle.gx_lines.specs.declared.syn.ItemSyn.{ItemSyn}
use Rattle.gx_lines.specs.declared.syn.ItemSyn.TheVariants as item_syn
use Rattle.gx_lines.specs.declared.syn.KeySyn.{KeySyn}
use Rattle.gx_lines.specs.declared.syn.TupleSyn.{TupleSyn}
use Rattle.gx_lines.specs.declared.syn.AssignSyn.{AssignSyn}
use Rattle.gx_resolve.specs.Columns.{column_of}
use Rattle.gx_resolve.specs.Typing.{typed_of}
use Rattle.gx_resolve.specs.declared.typed.Typed.{Typed}
use Rattle.gx_resolve.specs.declared.typed.Typed.TheVariants as typed
use Rattle.gx_resolve.specs.declared.fault.NameFault.TheVariants.{UnknownColumn}
use Rattle.gx_resolve.specs.Results.{Answer, ◌>>=◌, each}
use Rattle.gx_resolve.specs.Kinding.{column_at, value_as, cond_as, where_as, constant_as, values_as, tuple_as, assign_as}
use Rattle.gx_resolve.specs.Selecting.{agg_as, item_as, name_as, descends, key_as}
use Rattle.gx_print.specs.Written.{column_name, expr_syn, cond_syn, item_syn_of, direction_of_key, key_syn, tuple_syn, assign_syn}
use Rattle.gx_print.proofs.Tidied.{tidy, tidy_direction, tidy_key, tidy_tuple, tidy_assign}
use Rattle.gx_print.specs.Shapes.{IsName}
use Rattle.gx_print.specs.Limited.{Each, Maybe, SynClear, ItemClear, KeyClear, AssignClear}
use Rattle.gx_print.proofs.Tidying.{HasName, column_again, column_clear, Writes, written_tidy, typed_again}

-- ANSWERS
pub bound : {A B : Type 0} (answer : Answer A) (next : A → Answer B) (b : B) → (answer >>= next) ≡ Ok b → (a : A) × (answer ≡ Ok a) × (next a ≡ Ok b)
bound (Ok a) next b h = (a, refl, h)
bound (Err e) next b h = absurd (cc)

pub same_ok : {A : Type 0} (a b : A) → ◌≡◌ {A = Answer A} (Ok a) (Ok b) → a ≡ b
same_ok a b h = cc

pub goes : {A B : Type 0} (answer : Answer A) (next : A → Answer B) (a : A) (b : B) → answer ≡ Ok a → next a ≡ Ok b → (answer >>= next) ≡ Ok b
goes {A = A} {B = B} answer next a b p q = ap (λ (x : Answer A). x >>= next) p ∙ q

-- what was resolved is written as it was read, but tidied, and is resolved again
pub record Again {A B : Type 0} (f : A → Answer B) (w : B → A) (tidying : A → A) (x : A) (y : B) : Type 0 where
  pub written : w y ≡ tidying x
  pub again : f (tidying x) ≡ Ok y

pub list_again : {A B : Type 0} (f : A → Answer B) (w : B → A) (tidying : A → A) → ((x : A) (y : B) → f x ≡ Ok y → Again f w tidying x y) → (xs : List A) (ys : List B) → each f xs ≡ Ok ys → Again (each f) (map w) (map tidying) xs ys
list_again {A = A} {B = B} f w tidying give [] ys h = subst (λ (zs : List B). Again (each f) (map w) (map tidying) [] zs) (same_ok [] ys h) (record { written = refl; again = refl })
list_again {A = A} {B = B} f w tidying give (x ∷ xs) ys h =
    let (y, p, q) = bound (f x) (λ y. each f xs >>= λ zs. Ok (y ∷ zs)) ys h in
    let (zs, r, s) = bound (each f xs) (λ zs. Ok (y ∷ zs)) ys q in
    let a = give x y p in
    let b = list_again f w tidying give xs zs r in
    subst (λ (us : List B). Again (each f) (map w) (map tidying) (x ∷ xs) us) (same_ok (y ∷ zs) ys s) (record {
      written = ap (λ (z : A). z ∷ map w zs) a.written ∙ ap (λ (us : List A). tidying x ∷ us) b.written;
      again = goes (f (tidying x)) (λ y. each f (map tidying xs) >>= λ zs. Ok (y ∷ zs)) y (y ∷ zs) a.again (goes (each f (map tidying xs)) (λ zs. Ok (y ∷ zs)) zs (y ∷ zs) b.again refl);
    })

-- COLUMNS
found_column : (found : Option (ℕ × Kind)) (c : ℕ × Kind) → ok_or found UnknownColumn ≡ Ok c → found ≡ Some c
found_column None c h = absurd (cc)
found_column (Some d) c h = cc

pub column_named : (columns : List Column) (name : List ℕ) (c : ℕ × Kind) → column_at columns name ≡ Ok c → column_name columns c.0 ≡ name
column_named columns name c h = column_again columns name c (found_column (column_of name columns) c h)

-- EXPRESSIONS
value_is : (k : Kind) (t : Typed) (e : Expr) → value_as k t ≡ Ok e → t ≡ typed.Value k e
value_is kind.Int (typed.Value kind.Int d) e h = ap (λ (x : Expr). typed.Value kind.Int x) (same_ok d e h)
value_is kind.Text (typed.Value kind.Text d) e h = ap (λ (x : Expr). typed.Value kind.Text x) (same_ok d e h)
value_is kind.Int (typed.Value kind.Text d) e h = absurd (cc)
value_is kind.Text (typed.Value kind.Int d) e h = absurd (cc)
value_is kind.Int (typed.Cond c) e h = absurd (cc)
value_is kind.Text (typed.Cond c) e h = absurd (cc)
value_is kind.Int typed.Unknown e h = absurd (cc)
value_is kind.Text typed.Unknown e h = absurd (cc)
value_is kind.Int typed.Mismatch e h = absurd (cc)
value_is kind.Text typed.Mismatch e h = absurd (cc)

cond_is : (t : Typed) (c : Cond) → cond_as t ≡ Ok c → t ≡ typed.Cond c
cond_is (typed.Cond d) c h = ap typed.Cond (same_ok d c h)
cond_is (typed.Value k e) c h = absurd (cc)
cond_is typed.Unknown c h = absurd (cc)
cond_is typed.Mismatch c h = absurd (cc)

module _ (columns : List Column) (clear : Each HasName columns) where
  named : (name : List ℕ) (c : ℕ × Kind) → column_of name columns ≡ Some c → (column_name columns c.0 ≡ name) × IsName name
  named name c e = (column_again columns name c e, column_clear columns 0 name c clear e)

  value_written : (k : Kind) (v : Syn) (e : Expr) → value_as k (typed_of columns v) ≡ Ok e → (expr_syn columns e ≡ tidy v) × SynClear (tidy v)
  value_written k v e h = subst (λ (t : Typed). Writes columns columns named t (tidy v)) (value_is k (typed_of columns v) e h) (written_tidy columns columns named v)

  none_named : (name : List ℕ) (c : ℕ × Kind) → column_of name [] ≡ Some c → (column_name columns c.0 ≡ name) × IsName name
  none_named name c e = absurd (cc)

  constant_written : (k : Kind) (v : Syn) (e : Expr) → constant_as k v ≡ Ok e → (expr_syn columns e ≡ tidy v) × SynClear (tidy v)
  constant_written k v e h = subst (λ (t : Typed). Writes columns [] none_named t (tidy v)) (value_is k (typed_of [] v) e h) (written_tidy columns [] none_named v)

  cond_written : (t : Syn) (c : Cond) → cond_as (typed_of columns t) ≡ Ok c → (cond_syn columns c ≡ tidy t) × SynClear (tidy t)
  cond_written t c h = subst (λ (x : Typed). Writes columns columns named x (tidy t)) (cond_is (typed_of columns t) c h) (written_tidy columns columns named t)

  pub where_again : (o : Option Syn) (c : Option Cond) → where_as columns o ≡ Ok c → Again (where_as columns) (option_map (cond_syn columns)) (option_map tidy) o c
  where_again None c h = subst (λ (x : Option Cond). Again (where_as columns) (option_map (cond_syn columns)) (option_map tidy) None x) (same_ok None c h) (record { written = refl; again = refl })
  where_again (Some t) c h =
      let (d, p, q) = bound (cond_as (typed_of columns t)) (λ x. Ok (Some x)) c h in
      let w = cond_written t d p in
      subst (λ (x : Option Cond). Again (where_as columns) (option_map (cond_syn columns)) (option_map tidy) (Some t) x) (same_ok (Some d) c q) (record {
        written = ap (λ (x : Syn). Some x) w.0;
        again = goes (cond_as (typed_of columns (tidy t))) (λ x. Ok (Some x)) d (Some d) (ap cond_as (typed_again columns t) ∙ p) refl;
      })

  -- TUPLES AND ASSIGNMENTS
  record ValuesAgain (cs : List Column) (vs : List Syn) (es : List Expr) : Type 0 where
    pub written : map (expr_syn columns) es ≡ map tidy vs
    pub again : values_as cs (map tidy vs) ≡ Ok es

  values_again : (cs : List Column) (vs : List Syn) (es : List Expr) → values_as cs vs ≡ Ok es → ValuesAgain cs vs es
  values_again [] [] es h = subst (ValuesAgain [] []) (same_ok [] es h) (record { written = refl; again = refl })
  values_again [] (v ∷ vs) es h = absurd (cc)
  values_again (c ∷ cs) [] es h = absurd (cc)
  values_again (c ∷ cs) (v ∷ vs) es h =
      let (d, p, q) = bound (constant_as c.kind v) (λ e. values_as cs vs >>= λ ds. Ok (e ∷ ds)) es h in
      let (ds, r, s) = bound (values_as cs vs) (λ ds. Ok (d ∷ ds)) es q in
      let rest = values_again cs vs ds r in
      subst (ValuesAgain (c ∷ cs) (v ∷ vs)) (same_ok (d ∷ ds) es s) (record {
        written = ap (λ (x : Syn). x ∷ map (expr_syn columns) ds) (let w = constant_written c.kind v d p in w.0) ∙ ap (λ (xs : List Syn). tidy v ∷ xs) rest.written;
        again = goes (constant_as c.kind (tidy v)) (λ e. values_as cs (map tidy vs) >>= λ ds. Ok (e ∷ ds)) d (d ∷ ds) (ap (value_as c.kind) (typed_again [] v) ∙ p) (goes (values_as cs (map tidy vs)) (λ ds. Ok (d ∷ ds)) ds (d ∷ ds) rest.again refl);
      })

  pub tuple_again : (t : TupleSyn) (es : List Expr) → tuple_as columns t ≡ Ok es → Again (tuple_as columns) (tuple_syn columns) tidy_tuple t es
  tuple_again t es h = let a = values_again columns t.values es h in record { written = ap (λ (vs : List Syn). let r : TupleSyn = record { values = vs } in r) a.written; again = a.again }

  pub assign_again : (a : AssignSyn) (b : Assign) → assign_as columns a ≡ Ok b → Again (assign_as columns) (assign_syn columns) tidy_assign a b
  assign_again a b h =
      let (c, p, q) = bound (column_at columns a.column) (λ c. value_as c.1 (typed_of columns a.value) >>= λ e. Ok (record { col = c.0; expr = e })) b h in
      let (e, r, s) = bound (value_as c.1 (typed_of columns a.value)) (λ e. Ok (record { col = c.0; expr = e })) b q in
      let n : column_name columns c.0 ≡ a.column = column_named columns a.column c p in
      let w = value_written c.1 a.value e r in
      subst (λ (x : Assign). Again (assign_as columns) (assign_syn columns) tidy_assign a x) (same_ok (record { col = c.0; expr = e }) b s) (record {
        written = ap (λ (x : List ℕ). let y : AssignSyn = record { column = x; value = expr_syn columns e } in y) n ∙ ap (λ (x : Syn). let y : AssignSyn = record { column = a.column; value = x } in y) w.0;
        again = goes (column_at columns a.column) (λ c. value_as c.1 (typed_of columns (tidy a.value)) >>= λ e. Ok (record { col = c.0; expr = e })) c (record { col = c.0; expr = e }) p (goes (value_as c.1 (typed_of columns (tidy a.value))) (λ e. Ok (record { col = c.0; expr = e })) e (record { col = c.0; expr = e }) (ap (value_as c.1) (typed_again columns a.value) ∙ r) refl);
      })

  -- ITEMS AND KEYS
  agg_written : (a : Agg) (place : ℕ) (k : Kind) (x : Item) → agg_as a place k ≡ Ok x → item_syn_of columns x ≡ item_syn.Agg a (column_name columns place)
  agg_written agg.Sum place kind.Int x h = subst (λ (y : Item). item_syn_of columns y ≡ item_syn.Agg agg.Sum (column_name columns place)) (same_ok (item.Sum place) x h) refl
  agg_written agg.Sum place kind.Text x h = absurd (cc)
  agg_written agg.Min place k x h = subst (λ (y : Item). item_syn_of columns y ≡ item_syn.Agg agg.Min (column_name columns place)) (same_ok (item.Min place) x h) refl
  agg_written agg.Max place k x h = subst (λ (y : Item). item_syn_of columns y ≡ item_syn.Agg agg.Max (column_name columns place)) (same_ok (item.Max place) x h) refl

  pub item_written : (i : ItemSyn) (x : Item) → item_as columns i ≡ Ok x → item_syn_of columns x ≡ i
  item_written (item_syn.Column name) x h =
      let (c, p, q) = bound (column_at columns name) (λ c. Ok (item.Col c.0)) x h in
      subst (λ (y : Item). item_syn_of columns y ≡ item_syn.Column name) (same_ok (item.Col c.0) x q) (ap item_syn.Column (column_named columns name c p))
  item_written item_syn.Count x h = subst (λ (y : Item). item_syn_of columns y ≡ item_syn.Count) (same_ok item.Count x h) refl
  item_written (item_syn.Agg a name) x h =
      let (c, p, q) = bound (column_at columns name) (λ c. agg_as a c.0 c.1) x h in
      agg_written a c.0 c.1 x q ∙ ap (λ (n : List ℕ). item_syn.Agg a n) (column_named columns name c p)

  pub name_written : (name : List ℕ) (place : ℕ) → name_as columns name ≡ Ok place → column_name columns place ≡ name
  name_written name place h =
      let (c, p, q) = bound (column_at columns name) (λ c. Ok c.0) place h in
      subst (λ (n : ℕ). column_name columns n ≡ name) (same_ok c.0 place q) (column_named columns name c p)

  direction_again : (o : Option Direction) → (direction_of_key (descends o) ≡ tidy_direction o) × (descends (tidy_direction o) ≡ descends o)
  direction_again None = (refl, refl)
  direction_again (Some direction.Asc) = (refl, refl)
  direction_again (Some direction.Desc) = (refl, refl)

  pub key_again : (k : KeySyn) (x : Key) → key_as columns k ≡ Ok x → Again (key_as columns) (key_syn columns) tidy_key k x
  key_again k x h =
      let (c, p, q) = bound (column_at columns k.column) (λ c. Ok (record { col = c.0; desc = descends k.direction })) x h in
      let (w, d) = direction_again k.direction in
      subst (λ (y : Key). Again (key_as columns) (key_syn columns) tidy_key k y) (same_ok (record { col = c.0; desc = descends k.direction }) x q) (record {
        written = ap (λ (n : List ℕ). let y : KeySyn = record { column = n; direction = direction_of_key (descends k.direction) } in y) (column_named columns k.column c p) ∙ ap (λ (o : Option Direction). let y : KeySyn = record { column = k.column; direction = o } in y) w;
        again = goes (column_at columns k.column) (λ c. Ok (record { col = c.0; desc = descends (tidy_direction k.direction) })) c (record { col = c.0; desc = descends k.direction }) p (ap (λ (b : Bool). let y : Key = record { col = c.0; desc = b } in Ok y) d);
      })

  -- CLEAR
  column_is_clear : (name : List ℕ) (c : ℕ × Kind) → column_at columns name ≡ Ok c → IsName name
  column_is_clear name c h = column_clear columns 0 name c clear (found_column (column_of name columns) c h)

  pub where_clear : (o : Option Syn) (c : Option Cond) → where_as columns o ≡ Ok c → Maybe SynClear (option_map tidy o)
  where_clear None c h = tt
  where_clear (Some t) c h = let (d, p, q) = bound (cond_as (typed_of columns t)) (λ x. Ok (Some x)) c h in let w = cond_written t d p in w.1

  pub values_clear : (cs : List Column) (vs : List Syn) (es : List Expr) → values_as cs vs ≡ Ok es → Each SynClear (map tidy vs)
  values_clear [] [] es h = tt
  values_clear [] (v ∷ vs) es h = absurd (cc)
  values_clear (c ∷ cs) [] es h = tt
  values_clear (c ∷ cs) (v ∷ vs) es h =
      let (d, p, q) = bound (constant_as c.kind v) (λ e. values_as cs vs >>= λ ds. Ok (e ∷ ds)) es h in
      let (ds, r, s) = bound (values_as cs vs) (λ ds. Ok (d ∷ ds)) es q in
      let w = constant_written c.kind v d p in
      (w.1, values_clear cs vs ds r)

  pub assign_clear : (a : AssignSyn) (b : Assign) → assign_as columns a ≡ Ok b → AssignClear (tidy_assign a)
  assign_clear a b h =
      let (c, p, q) = bound (column_at columns a.column) (λ c. value_as c.1 (typed_of columns a.value) >>= λ e. Ok (record { col = c.0; expr = e })) b h in
      let (e, r, s) = bound (value_as c.1 (typed_of columns a.value)) (λ e. Ok (record { col = c.0; expr = e })) b q in
      let w = value_written c.1 a.value e r in
      (column_is_clear a.column c p, w.1)

  pub item_clear : (i : ItemSyn) (x : Item) → item_as columns i ≡ Ok x → ItemClear i
  item_clear (item_syn.Column name) x h = let (c, p, q) = bound (column_at columns name) (λ c. Ok (item.Col c.0)) x h in column_is_clear name c p
  item_clear item_syn.Count x h = tt
  item_clear (item_syn.Agg a name) x h = let (c, p, q) = bound (column_at columns name) (λ c. agg_as a c.0 c.1) x h in column_is_clear name c p

  pub name_clear : (name : List ℕ) (place : ℕ) → name_as columns name ≡ Ok place → IsName name
  name_clear name place h = let (c, p, q) = bound (column_at columns name) (λ c. Ok c.0) place h in column_is_clear name c p

  pub key_clear : (k : KeySyn) (x : Key) → key_as columns k ≡ Ok x → KeyClear (tidy_key k)
  key_clear k x h = let (c, p, q) = bound (column_at columns k.column) (λ c. Ok (record { col = c.0; desc = descends k.direction })) x h in column_is_clear k.column c p

pub each_clear : {A B : Type 0} (f : A → Answer B) (Q : A → Type 0) → ((x : A) (y : B) → f x ≡ Ok y → Q x) → (xs : List A) (ys : List B) → each f xs ≡ Ok ys → Each Q xs
each_clear f Q give [] ys h = tt
each_clear f Q give (x ∷ xs) ys h =
    let (y, p, q) = bound (f x) (λ y. each f xs >>= λ zs. Ok (y ∷ zs)) ys h in
    let (zs, r, s) = bound (each f xs) (λ zs. Ok (y ∷ zs)) ys q in
    (give x y p, each_clear f Q give xs zs r)
