-- The names of a tidied statement are those of the statement.
use Rattle.std.proofs.Common.{◌≡◌, ℕ, List, [], ◌∷◌, ◌++◌, map, Option, Some, None, refl, sym, ◌∙◌, ap, append_assoc}
use Rattle.std.specs.Option.{option_map}
use Rattle.std.specs.List.{flat_map}
use Rattle.gx_tree.specs.declared.schema.Column.{Column}
use Rattle.gx_grammar.specs.declared.syn.Syn.{Syn}
use Rattle.gx_lines.specs.declared.syn.ItemsSyn.{ItemsSyn}
use Rattle.gx_lines.specs.declared.syn.ItemsSyn.TheVariants as items
use Rattle.gx_lines.specs.declared.syn.KeySyn.{KeySyn}
use Rattle.gx_lines.specs.declared.syn.SelectSyn.{SelectSyn}
use Rattle.gx_lines.specs.declared.syn.TupleSyn.{TupleSyn}
use Rattle.gx_lines.specs.declared.syn.AssignSyn.{AssignSyn}
use Rattle.gx_resolve.specs.Results.{Answer}
use Rattle.gx_resolve.specs.Naming.{Name, Used, Given, names_in, items_names, where_names, group_names, key_name, order_names, select_names, tuple_names, assign_names, update_names, names_right}
use Rattle.gx_print.proofs.Tidied.{tidy, tidy_key, tidy_items, tidy_select, tidy_tuple, tidy_assign}
use Rattle.gx_print.proofs.Tidying.{names_again}
use Rattle.gx_print.proofs.AllColumns.{columns_skipped}

flat_map-same : {A B C : Type 0} (f : A → List B) (h : C → List B) (g : A → C) → ((x : A) → h (g x) ≡ f x) → (xs : List A) → flat_map h (map g xs) ≡ flat_map f xs
flat_map-same f h g e [] = refl
flat_map-same {B = B} f h g e (x ∷ xs) = ap (λ (t : List B). t ++ flat_map h (map g xs)) (e x) ∙ ap (λ (t : List B). f x ++ t) (flat_map-same f h g e xs)

map-same : {A B : Type 0} (f : A → B) (g : A → A) → ((x : A) → f (g x) ≡ f x) → (xs : List A) → map f (map g xs) ≡ map f xs
map-same f g e [] = refl
map-same {B = B} f g e (x ∷ xs) = ap (λ (y : B). y ∷ map f (map g xs)) (e x) ∙ ap (λ (ys : List B). f x ∷ ys) (map-same f g e xs)

pub where_same : (o : Option Syn) → where_names (option_map tidy o) ≡ where_names o
where_same None = refl
where_same (Some t) = names_again t

order_same : (o : Option (List KeySyn)) → order_names (option_map (map tidy_key) o) ≡ order_names o
order_same None = refl
order_same (Some ks) = map-same key_name tidy_key (λ k. refl) ks

tuple_same : (t : TupleSyn) → tuple_names (tidy_tuple t) ≡ tuple_names t
tuple_same t = flat_map-same names_in names_in tidy names_again t.values

pub tuples_same : (ts : List TupleSyn) → flat_map tuple_names (map tidy_tuple ts) ≡ flat_map tuple_names ts
tuples_same ts = flat_map-same tuple_names tuple_names tidy_tuple tuple_same ts

assign_same : (a : AssignSyn) → assign_names (tidy_assign a) ≡ assign_names a
assign_same a = ap (λ (ns : List (List ℕ)). Given a.column ∷ map Used ns) (names_again a.value)

pub update_same : (assigns : List AssignSyn) (o : Option Syn) → update_names (map tidy_assign assigns) (option_map tidy o) ≡ update_names assigns o
update_same assigns o = ap (λ (ns : List Name). ns ++ map Used (where_names (option_map tidy o))) (flat_map-same assign_names assign_names tidy_assign assign_same assigns) ∙ ap (λ (ns : List (List ℕ)). flat_map assign_names assigns ++ map Used ns) (where_same o)

items_right : (columns : List Column) (i : ItemsSyn) (rest : List (List ℕ)) → names_right columns [] (map Used (items_names (tidy_items columns i) ++ rest)) ≡ names_right columns [] (map Used (items_names i ++ rest))
items_right columns items.All rest = columns_skipped columns [] columns [] rest refl
items_right columns (items.These xs) rest = refl

grouped : (i w g o : List (List ℕ)) → ((i ++ w) ++ g) ++ o ≡ i ++ (w ++ (g ++ o))
grouped i w g o = append_assoc (i ++ w) g o ∙ append_assoc i w (g ++ o)

pub select_right : (columns : List Column) (q : SelectSyn) → names_right columns [] (map Used (select_names (tidy_select columns q))) ≡ names_right columns [] (map Used (select_names q))
select_right columns q =
    let right : List (List ℕ) → Answer (Unit {0}) = λ ns. names_right columns [] (map Used ns) in
    let w : List (List ℕ) = where_names q.cond in
    let g : List (List ℕ) = group_names q.group in
    let o : List (List ℕ) = order_names q.order in
    let v : List (List ℕ) = where_names (option_map tidy q.cond) in
    let p : List (List ℕ) = order_names (option_map (map tidy_key) q.order) in
    let same : v ++ (g ++ p) ≡ w ++ (g ++ o) = ap (λ (ns : List (List ℕ)). ns ++ (g ++ p)) (where_same q.cond) ∙ ap (λ (ns : List (List ℕ)). w ++ (g ++ ns)) (order_same q.order) in
    ap right (grouped (items_names (tidy_items columns q.items)) v g p)
    ∙ items_right columns q.items (v ++ (g ++ p))
    ∙ ap (λ (ns : List (List ℕ)). right (items_names q.items ++ ns)) same
    ∙ ap right (sym (grouped (items_names q.items) w g o))
