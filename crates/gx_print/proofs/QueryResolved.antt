-- A query that was resolved is written as it was read, but tidied, and resolved again to the same.
use Rattle.std.proofs.Common.{◌≡◌, ℕ, Bool, true, false, not, ◌&&◌, ◌||◌, List, [], ◌∷◌, map, Option, Some, None, is_some, is_none, Ok, refl, sym, ◌∙◌, ap, subst}
use Rattle.std.specs.Option.{option_map}
use Rattle.std.specs.List.{list_all}
use Rattle.gx_ids.specs.declared.ids.Table.{Table}
use Rattle.gx_tree.specs.declared.schema.Column.{Column}
use Rattle.gx_tree.specs.declared.cond.Cond.{Cond}
use Rattle.gx_tree.specs.declared.query.Item.{Item}
use Rattle.gx_tree.specs.declared.query.Key.{Key}
use Rattle.gx_tree.specs.declared.query.Query.{Query}
use Rattle.gx_grammar.specs.declared.fault.Limits.{Limits}
use Rattle.gx_grammar.specs.declared.syn.Syn.{Syn}
use Rattle.gx_lines.specs.declared.classes.Size.{Size}
use Rattle.gx_lines.specs.declared.syn.ItemsSyn.{ItemsSyn}
use Rattle.gx_lines.specs.declared.syn.ItemsSyn.TheVariants as items
use Rattle.gx_lines.specs.declared.syn.KeySyn.{KeySyn}
use Rattle.gx_lines.specs.declared.syn.SelectSyn.{SelectSyn}
use Rattle.gx_resolve.specs.Results.{Answer, ◌>>=◌, each}
use Rattle.gx_resolve.specs.Kinding.{where_as}
use Rattle.gx_resolve.specs.Selecting.{item_as, items_as, name_as, group_as, key_as, order_as, size_as, limit_as, has_aggregate, is_grouped, is_listed, is_group_item, is_group_key, keeps_groups, groups_kept, query_as}
use Rattle.gx_meaning.specs.Statements.{AreDistinct, column_text}
use Rattle.gx_print.proofs.Tidying.{HasName}
use Rattle.gx_print.specs.Limited.{Each, Some_each, Maybe, IsShort, KeyWithin, SelectWithin}
use Rattle.gx_print.specs.Written.{column_name, cond_syn, item_syn_of, key_syn, unless_empty, to_size, select_syn}
use Rattle.gx_print.proofs.Tidied.{tidy, tidy_key, tidy_items, tidy_select}
use Rattle.gx_print.proofs.Resolved.{bound, same_ok, goes, Again, list_again, where_again, item_written, name_written, key_again}
use Rattle.gx_print.proofs.AllColumns.{columns_written, columns_again, no_aggregate}

list_written : {A B : Type 0} (f : A → Answer B) (w : B → A) → ((x : A) (y : B) → f x ≡ Ok y → w y ≡ x) → (xs : List A) (ys : List B) → each f xs ≡ Ok ys → map w ys ≡ xs
list_written {A = A} {B = B} f w give [] ys h = subst (λ (zs : List B). map w zs ≡ []) (same_ok [] ys h) refl
list_written {A = A} {B = B} f w give (x ∷ xs) ys h =
    let (y, p, q) = bound (f x) (λ y. each f xs >>= λ zs. Ok (y ∷ zs)) ys h in
    let (zs, r, s) = bound (each f xs) (λ zs. Ok (y ∷ zs)) ys q in
    subst (λ (us : List B). map w us ≡ x ∷ xs) (same_ok (y ∷ zs) ys s) (ap (λ (z : A). z ∷ map w zs) (give x y p) ∙ ap (λ (us : List A). x ∷ us) (list_written f w give xs zs r))

some_written : {A B : Type 0} (w : A → B) (ys : List A) (x : B) (xs : List B) → map w ys ≡ x ∷ xs → unless_empty w ys ≡ Some (x ∷ xs)
some_written w [] x xs e = absurd (cc)
some_written {B = B} w (y ∷ ys) x xs e = ap (λ (zs : List B). Some zs) e

module _ (columns : List Column) (clear : Each HasName columns) (distinct : AreDistinct (map column_text columns)) where
  items_again : (i : ItemsSyn) (xs : List Item) → items_as columns i ≡ Ok xs → Again (items_as columns) (λ ys. items.These (map (item_syn_of columns) ys)) (tidy_items columns) i xs
  items_again items.All xs h =
      subst (λ (ys : List Item). Again (items_as columns) (λ ys. items.These (map (item_syn_of columns) ys)) (tidy_items columns) items.All ys) (same_ok _ xs h) (record {
        written = ap items.These (columns_written columns [] columns 0 refl refl);
        again = columns_again columns distinct [] columns 0 refl refl;
      })
  items_again (items.These is) xs h = record { written = ap items.These (list_written (item_as columns) (item_syn_of columns) (item_written columns clear) is xs h); again = h }

  group_written : (d : Limits) (o : Option (List (List ℕ))) (g : List ℕ) → Maybe (Some_each (IsShort d)) o → group_as columns o ≡ Ok g → unless_empty (column_name columns) g ≡ o
  group_written d None g w h = subst (λ (x : List ℕ). unless_empty (column_name columns) x ≡ None) (same_ok [] g h) refl
  group_written d (Some []) g w h = absurd w
  group_written d (Some (n ∷ ns)) g w h = some_written (column_name columns) g n ns (list_written (name_as columns) (column_name columns) (name_written columns clear) (n ∷ ns) g h)

  order_again : (d : Limits) (o : Option (List KeySyn)) (ks : List Key) → Maybe (Some_each (KeyWithin d)) o → order_as columns o ≡ Ok ks → Again (order_as columns) (unless_empty (key_syn columns)) (option_map (map tidy_key)) o ks
  order_again d None ks w h = subst (λ (x : List Key). Again (order_as columns) (unless_empty (key_syn columns)) (option_map (map tidy_key)) None x) (same_ok [] ks h) (record { written = refl; again = refl })
  order_again d (Some []) ks w h = absurd w
  order_again d (Some (n ∷ ns)) ks w h =
      let a = list_again (key_as columns) (key_syn columns) tidy_key (key_again columns clear) (n ∷ ns) ks h in
      record { written = some_written (key_syn columns) ks (tidy_key n) (map tidy_key ns) a.written; again = a.again }

size_written : (size : Size) (o : Option ℕ) (l : Option ℕ) → size.0 ≡ o → size_as o ≡ Ok l → option_map to_size l ≡ Some size
size_written size None l e h = absurd (cc)
size_written size (Some n) l e h = subst (λ (x : Option ℕ). option_map to_size x ≡ Some size) (same_ok (Some n) l h) (ap (λ (x : Option ℕ). let s : Size = record { 0 = x } in Some s) (sym e))

limit_written : (o : Option Size) (l : Option ℕ) → limit_as o ≡ Ok l → option_map to_size l ≡ o
limit_written None l h = subst (λ (x : Option ℕ). option_map to_size x ≡ None) (same_ok None l h) refl
limit_written (Some size) l h = size_written size size.0 l refl h

none_same : (o : Option (List KeySyn)) → is_none (option_map (map tidy_key) o) ≡ is_none o
none_same None = refl
none_same (Some ks) = refl

groups_again : (columns : List Column) (i : ItemsSyn) (b c d n m : Bool) (k : Unit {0}) → m ≡ n
    → groups_kept (not (has_aggregate i || b) || (is_listed i && c && d && (b || n))) ≡ Ok k
    → groups_kept (not (has_aggregate (tidy_items columns i) || b) || (is_listed (tidy_items columns i) && c && d && (b || m))) ≡ Ok k
groups_again columns (items.These xs) b c d n m k e h = subst (λ (x : Bool). groups_kept (not (has_aggregate (items.These xs) || b) || (true && c && d && (b || x))) ≡ Ok k) (sym e) h
groups_again columns items.All false c d n m k e h = subst (λ (x : Bool). groups_kept (not (x || false) || (true && c && d && (false || m))) ≡ Ok k) (sym (no_aggregate columns)) h
groups_again columns items.All true c d n m k e h = absurd (cc)

aggregate_same : (columns : List Column) (i : ItemsSyn) → has_aggregate (tidy_items columns i) ≡ has_aggregate i
aggregate_same columns items.All = no_aggregate columns
aggregate_same columns (items.These xs) = refl

pub record QueryAgain (table : Table) (columns : List Column) (s : SelectSyn) (q : Query) : Type 0 where
  pub table_is : q.table ≡ table
  pub written : select_syn s.table columns q ≡ tidy_select columns s
  pub again : query_as table columns (tidy_select columns s) ≡ Ok q

pub query_again : (d : Limits) (table : Table) (columns : List Column) (s : SelectSyn) (q : Query) → Each HasName columns → AreDistinct (map column_text columns) → SelectWithin d s → query_as table columns s ≡ Ok q → QueryAgain table columns s q
query_again d table columns s q clear distinct w h =
    let made : List Item → List ℕ → List Key → Option ℕ → Option Cond → Bool → Query = λ is g ks l c b. record { table = table; items = is; cond = c; group = g; grouped = b; order = ks; limit = l } in
    let (is, p, h) = bound (items_as columns s.items) _ q h in
    let (g, p1, h) = bound (group_as columns s.group) _ q h in
    let (ks, p2, h) = bound (order_as columns s.order) _ q h in
    let (l, p3, h) = bound (limit_as s.limit) _ q h in
    let (k, p4, h) = bound (groups_kept (keeps_groups s is g ks)) _ q h in
    let (c, p5, h) = bound (where_as columns s.cond) _ q h in
    let a = items_again columns clear distinct s.items is p in
    let b = order_again columns clear distinct d s.order ks w.order p2 in
    let e = where_again columns clear s.cond c p5 in
    let kept = groups_again columns s.items (is_some s.group) (list_all (is_group_item g) is) (list_all (is_group_key g) ks) (is_none s.order) (is_none (option_map (map tidy_key) s.order)) k (none_same s.order) p4 in
    let grouped : is_grouped (tidy_select columns s) ≡ is_grouped s = ap (λ (x : Bool). x || is_some s.group) (aggregate_same columns s.items) in
    let tail : List Item → List ℕ → List Key → Option ℕ → Unit {0} → Answer Query = λ is g ks l k. where_as columns (option_map tidy s.cond) >>= λ c. Ok (made is g ks l c (is_grouped (tidy_select columns s))) in
    subst (QueryAgain table columns s) (same_ok (made is g ks l c (is_grouped s)) q h) (record {
      table_is = refl;
      written = ap (λ (x : ItemsSyn). let y : SelectSyn = record { items = x; table = s.table; cond = option_map (cond_syn columns) c; group = unless_empty (column_name columns) g; order = unless_empty (key_syn columns) ks; limit = option_map to_size l } in y) a.written
          ∙ ap (λ (x : Option Syn). let y : SelectSyn = record { items = tidy_items columns s.items; table = s.table; cond = x; group = unless_empty (column_name columns) g; order = unless_empty (key_syn columns) ks; limit = option_map to_size l } in y) e.written
          ∙ ap (λ (x : Option (List (List ℕ))). let y : SelectSyn = record { items = tidy_items columns s.items; table = s.table; cond = option_map tidy s.cond; group = x; order = unless_empty (key_syn columns) ks; limit = option_map to_size l } in y) (group_written columns clear distinct d s.group g w.group p1)
          ∙ ap (λ (x : Option (List KeySyn)). let y : SelectSyn = record { items = tidy_items columns s.items; table = s.table; cond = option_map tidy s.cond; group = s.group; order = x; limit = option_map to_size l } in y) b.written
          ∙ ap (λ (x : Option Size). let y : SelectSyn = record { items = tidy_items columns s.items; table = s.table; cond = option_map tidy s.cond; group = s.group; order = option_map (map tidy_key) s.order; limit = x } in y) (limit_written s.limit l p3);
      again = goes (items_as columns (tidy_items columns s.items)) _ is (made is g ks l c (is_grouped s)) a.again
          (goes (group_as columns s.group) _ g (made is g ks l c (is_grouped s)) p1
          (goes (order_as columns (option_map (map tidy_key) s.order)) _ ks (made is g ks l c (is_grouped s)) b.again
          (goes (limit_as s.limit) _ l (made is g ks l c (is_grouped s)) p3
          (goes (groups_kept (keeps_groups (tidy_select columns s) is g ks)) _ k (made is g ks l c (is_grouped s)) kept
          (goes (where_as columns (option_map tidy s.cond)) (λ c. Ok (made is g ks l c (is_grouped (tidy_select columns s)))) c (made is g ks l c (is_grouped s)) e.again (ap (λ (x : Bool). Ok (made is g ks l c x)) grouped))))));
    })
