-- A statement that was resolved has names and numbers of the language.
use Rattle.std.proofs.Common.{◌≡◌, ℕ, List, [], ◌∷◌, map, Option, Some, None, Ok, refl, sym, subst}
use Rattle.std.specs.Option.{option_map}
use Rattle.gx_ids.specs.declared.ids.Table.{Table}
use Rattle.gx_tree.specs.declared.schema.Column.{Column}
use Rattle.gx_tree.specs.declared.expr.Expr.{Expr}
use Rattle.gx_tree.specs.declared.query.Item.{Item}
use Rattle.gx_tree.specs.declared.query.Key.{Key}
use Rattle.gx_tree.specs.declared.query.Query.{Query}
use Rattle.gx_tree.specs.declared.stmt.Assign.{Assign}
use Rattle.gx_tree.specs.declared.stmt.Stmt.{Stmt}
use Rattle.gx_tree.specs.declared.stmt.Stmt.TheVariants as stmt
use Rattle.gx_grammar.specs.declared.fault.Limits.{Limits}
use Rattle.gx_grammar.specs.declared.syn.Syn.{Syn}
use Rattle.gx_lines.specs.declared.classes.Size.{Size}
use Rattle.gx_lines.specs.declared.syn.ItemsSyn.{ItemsSyn}
use Rattle.gx_lines.specs.declared.syn.ItemsSyn.TheVariants as items
use Rattle.gx_lines.specs.declared.syn.KeySyn.{KeySyn}
use Rattle.gx_lines.specs.declared.syn.SelectSyn.{SelectSyn}
use Rattle.gx_lines.specs.declared.syn.TupleSyn.{TupleSyn}
use Rattle.gx_lines.specs.declared.syn.AssignSyn.{AssignSyn}
use Rattle.gx_lines.specs.declared.syn.StmtSyn.TheVariants as stmt_syn
use Rattle.gx_resolve.specs.Results.{◌>>=◌, each}
use Rattle.gx_resolve.specs.Kinding.{where_as, tuple_as, assign_as}
use Rattle.gx_resolve.specs.Selecting.{item_as, items_as, name_as, group_as, key_as, order_as, size_as, limit_as, keeps_groups, groups_kept, query_as}
use Rattle.gx_resolve.specs.Resolving.{kinded}
use Rattle.gx_print.specs.Shapes.{IsName, IsNumber}
use Rattle.gx_print.specs.Forms.{IsShallow}
use Rattle.gx_print.specs.Limited.{Each, Some_each, Maybe, IsShort, ItemWithin, ItemsWithin, KeyWithin, SelectWithin, TupleWithin, AssignWithin, IsWithin, SynClear, ItemClear, ItemsClear, KeyClear, SizeClear, SelectClear, TupleClear, AssignClear, StmtClear}
use Rattle.gx_print.specs.Reading.{IsColumnOf, IsSized, HasSize}
use Rattle.gx_print.proofs.Tidied.{tidy, tidy_key, column_item, tidy_items, tidy_select, tidy_tuple, tidy_assign, tidied}
use Rattle.gx_print.proofs.Tidying.{HasName}
use Rattle.gx_print.proofs.Resolved.{bound, same_ok, where_clear, values_clear, assign_clear, item_clear, name_clear, key_clear, each_clear}
use Rattle.gx_print.proofs.TidyWithin.{some_each_map}

-- LISTS
some_also : {A : Type 0} (P Q : A → Type 0) (xs : List A) → Some_each P xs → Each Q xs → Some_each Q xs
some_also P Q [] e q = absurd e
some_also P Q (x ∷ xs) e q = q

both_map : {A B : Type 0} (P Q : A → Type 0) (R : B → Type 0) (g : A → B) → ((x : A) → P x → Q x → R (g x)) → (xs : List A) → Each P xs → Each Q xs → Each R (map g xs)
both_map P Q R g f [] p q = tt
both_map P Q R g f (x ∷ xs) p q = (f x p.0 q.0, both_map P Q R g f xs p.1 q.1)

some_both_map : {A B : Type 0} (P Q : A → Type 0) (R : B → Type 0) (g : A → B) → ((x : A) → P x → Q x → R (g x)) → (xs : List A) → Some_each P xs → Each Q xs → Some_each R (map g xs)
some_both_map P Q R g f [] p q = absurd p
some_both_map P Q R g f (x ∷ xs) p q = (f x p.0 q.0, both_map P Q R g f xs p.1 q.1)

some_of_map : {A B : Type 0} (P : A → Type 0) (Q : B → Type 0) (g : A → B) (xs : List A) → Some_each P xs → Each Q (map g xs) → Some_each Q (map g xs)
some_of_map P Q g [] e q = absurd e
some_of_map P Q g (x ∷ xs) e q = q

size_clear : (size : Size) (o l : Option ℕ) → size.0 ≡ o → size_as o ≡ Ok l → IsSized l → IsNumber o
size_clear size None l e h b = absurd (cc)
size_clear size (Some n) l e h b = subst IsSized (sym (same_ok (Some n) l h)) b

limit_clear : (o : Option Size) (l : Option ℕ) → limit_as o ≡ Ok l → IsSized l → Maybe SizeClear o
limit_clear None l h b = tt
limit_clear (Some size) l h b = size_clear size size.0 l refl h b

module _ (d : Limits) (columns : List Column) (some : Some_each (IsColumnOf d) columns) (clear : Each HasName columns) where
  items_clear : (i : ItemsSyn) (xs : List Item) → ItemsWithin d i → items_as columns i ≡ Ok xs → ItemsClear (tidy_items columns i)
  items_clear items.All xs w h = some_each_map (IsColumnOf d) ItemClear column_item (λ c n. n.0) columns some
  items_clear (items.These is) xs w h = some_also (ItemWithin d) ItemClear is w (each_clear (item_as columns) ItemClear (item_clear columns clear) is xs h)

  group_clear : (o : Option (List (List ℕ))) (g : List ℕ) → Maybe (Some_each (IsShort d)) o → group_as columns o ≡ Ok g → Maybe (Some_each IsName) o
  group_clear None g w h = tt
  group_clear (Some ns) g w h = some_also (IsShort d) IsName ns w (each_clear (name_as columns) IsName (name_clear columns clear) ns g h)

  order_clear : (o : Option (List KeySyn)) (ks : List Key) → Maybe (Some_each (KeyWithin d)) o → order_as columns o ≡ Ok ks → Maybe (Some_each KeyClear) (option_map (map tidy_key) o)
  order_clear None ks w h = tt
  order_clear (Some xs) ks w h = some_both_map (KeyWithin d) (λ k. KeyClear (tidy_key k)) KeyClear tidy_key (λ k v c. c) xs w (each_clear (key_as columns) (λ k. KeyClear (tidy_key k)) (key_clear columns clear) xs ks h)

  query_clear : (table : Table) (s : SelectSyn) (q : Query) → SelectWithin d s → IsName s.table → query_as table columns s ≡ Ok q → IsSized q.limit → SelectClear (tidy_select columns s)
  query_clear table s q w name h b =
      let (is, p, h) = bound (items_as columns s.items) _ q h in
      let (g, p1, h) = bound (group_as columns s.group) _ q h in
      let (ks, p2, h) = bound (order_as columns s.order) _ q h in
      let (l, p3, h) = bound (limit_as s.limit) _ q h in
      let (k, p4, h) = bound (groups_kept (keeps_groups s is g ks)) _ q h in
      let (c, p5, h) = bound (where_as columns s.cond) _ q h in
      let sized : IsSized l = subst (λ (x : Query). IsSized x.limit) (sym (same_ok _ q h)) b in
      record {
        items = items_clear s.items is w.items p;
        table = name;
        cond = where_clear columns clear s.cond c p5;
        group = group_clear s.group g w.group p1;
        order = order_clear s.order ks w.order p2;
        limit = limit_clear s.limit l p3 sized;
      }

  tuple_clear : (t : TupleSyn) → TupleWithin d t → Each SynClear (map tidy t.values) → TupleClear (tidy_tuple t)
  tuple_clear t w e = some_of_map (IsShallow d) SynClear tidy t.values w e

  tuples_clear : (ts : List TupleSyn) (rows : List (List Expr)) → Some_each (TupleWithin d) ts → each (tuple_as columns) ts ≡ Ok rows → Some_each TupleClear (map tidy_tuple ts)
  tuples_clear ts rows w h = some_both_map (TupleWithin d) (λ t. Each SynClear (map tidy t.values)) TupleClear tidy_tuple tuple_clear ts w (each_clear (tuple_as columns) (λ t. Each SynClear (map tidy t.values)) (λ t es p. values_clear columns clear columns t.values es p) ts rows h)

  assigns_clear : (xs : List AssignSyn) (set : List Assign) → Some_each (AssignWithin d) xs → each (assign_as columns) xs ≡ Ok set → Some_each AssignClear (map tidy_assign xs)
  assigns_clear xs set w h = some_both_map (AssignWithin d) (λ a. AssignClear (tidy_assign a)) AssignClear tidy_assign (λ a v c. c) xs w (each_clear (assign_as columns) (λ a. AssignClear (tidy_assign a)) (assign_clear columns clear) xs set h)

  pub select_clear : (table : Table) (q : SelectSyn) (x : Stmt) → IsWithin d (stmt_syn.Select q) → IsName q.table → kinded table columns (stmt_syn.Select q) ≡ Ok x → HasSize x → StmtClear (tidied columns (stmt_syn.Select q))
  select_clear table q x w name h b =
      let (r, p, e) = bound (query_as table columns q) (λ r. Ok (stmt.Select r)) x h in
      query_clear table q r w name p (subst HasSize (sym (same_ok (stmt.Select r) x e)) b)

  pub insert_clear : (table : Table) (t : List ℕ) (tuples : List TupleSyn) (x : Stmt) → IsWithin d (stmt_syn.Insert t tuples) → IsName t → kinded table columns (stmt_syn.Insert t tuples) ≡ Ok x → StmtClear (tidied columns (stmt_syn.Insert t tuples))
  insert_clear table t tuples x w name h = let (rows, p, e) = bound (each (tuple_as columns) tuples) (λ rows. Ok (stmt.Insert table rows)) x h in (name, tuples_clear tuples rows w.1 p)

  pub update_clear : (table : Table) (t : List ℕ) (assigns : List AssignSyn) (cond : Option Syn) (x : Stmt) → IsWithin d (stmt_syn.Update t assigns cond) → IsName t → kinded table columns (stmt_syn.Update t assigns cond) ≡ Ok x → StmtClear (tidied columns (stmt_syn.Update t assigns cond))
  update_clear table t assigns cond x w name h =
      let (set, p, h) = bound (each (assign_as columns) assigns) (λ set. where_as columns cond >>= λ c. Ok (stmt.Update table set c)) x h in
      let (c, q, e) = bound (where_as columns cond) (λ c. Ok (stmt.Update table set c)) x h in
      (name, assigns_clear assigns set w.1 p, where_clear columns clear cond c q)

  pub delete_clear : (table : Table) (t : List ℕ) (cond : Option Syn) (x : Stmt) → IsName t → kinded table columns (stmt_syn.Delete t cond) ≡ Ok x → StmtClear (tidied columns (stmt_syn.Delete t cond))
  delete_clear table t cond x name h = let (c, q, e) = bound (where_as columns cond) (λ c. Ok (stmt.Delete table c)) x h in (name, where_clear columns clear cond c q)
