-- A tidied statement is within the same limits.
use Rattle.std.proofs.Common.{List, [], ◌∷◌, map, Option, Some, None}
use Rattle.std.specs.Option.{option_map}
use Rattle.gx_tree.specs.declared.schema.Column.{Column}
use Rattle.gx_tree.specs.declared.schema.Schema.{Schema}
use Rattle.gx_grammar.specs.declared.fault.Limits.{Limits}
use Rattle.gx_grammar.specs.declared.syn.Syn.{Syn}
use Rattle.gx_lines.specs.declared.syn.ItemsSyn.{ItemsSyn}
use Rattle.gx_lines.specs.declared.syn.ItemsSyn.TheVariants as items
use Rattle.gx_lines.specs.declared.syn.TupleSyn.{TupleSyn}
use Rattle.gx_lines.specs.declared.syn.AssignSyn.{AssignSyn}
use Rattle.gx_lines.specs.declared.syn.StmtSyn.{StmtSyn}
use Rattle.gx_lines.specs.declared.syn.StmtSyn.TheVariants as stmt
use Rattle.gx_print.specs.Forms.{IsShallow}
use Rattle.gx_print.specs.Limited.{Each, Some_each, Maybe, ItemWithin, ItemsWithin, KeyWithin, TupleWithin, AssignWithin, IsWithin}
use Rattle.gx_print.specs.Reading.{IsColumnOf, IsTable}
use Rattle.gx_print.proofs.Tidied.{tidy, tidy_key, column_item, tidy_items, tidy_tuple, tidy_assign, tidied}
use Rattle.gx_print.proofs.TidyForms.{tidy_shallow}

each_map : {A B : Type 0} (P : A → Type 0) (Q : B → Type 0) (g : A → B) → ((x : A) → P x → Q (g x)) → (xs : List A) → Each P xs → Each Q (map g xs)
each_map P Q g f [] e = tt
each_map P Q g f (x ∷ xs) e = (f x e.0, each_map P Q g f xs e.1)

pub some_each_map : {A B : Type 0} (P : A → Type 0) (Q : B → Type 0) (g : A → B) → ((x : A) → P x → Q (g x)) → (xs : List A) → Some_each P xs → Some_each Q (map g xs)
some_each_map P Q g f [] e = absurd e
some_each_map P Q g f (x ∷ xs) e = (f x e.0, each_map P Q g f xs e.1)

maybe_map : {A B : Type 0} (P : A → Type 0) (Q : B → Type 0) (g : A → B) → ((x : A) → P x → Q (g x)) → (o : Option A) → Maybe P o → Maybe Q (option_map g o)
maybe_map P Q g f None e = tt
maybe_map P Q g f (Some x) e = f x e

module _ (d : Limits) where
  cond_within : (o : Option Syn) → Maybe (IsShallow d) o → Maybe (IsShallow d) (option_map tidy o)
  cond_within = maybe_map (IsShallow d) (IsShallow d) tidy (tidy_shallow d)

  items_within : (columns : List Column) (i : ItemsSyn) → Some_each (IsColumnOf d) columns → ItemsWithin d i → ItemsWithin d (tidy_items columns i)
  items_within columns items.All e w = some_each_map (IsColumnOf d) (ItemWithin d) column_item (λ c n. n.1) columns e
  items_within columns (items.These xs) e w = w

  tuple_within : (t : TupleSyn) → TupleWithin d t → TupleWithin d (tidy_tuple t)
  tuple_within t w = some_each_map (IsShallow d) (IsShallow d) tidy (tidy_shallow d) t.values w

  assign_within : (a : AssignSyn) → AssignWithin d a → AssignWithin d (tidy_assign a)
  assign_within a w = (w.0, tidy_shallow d a.value w.1)

  pub tidied_within : (table : Schema) → IsTable d table → (s : StmtSyn) → IsWithin d s → IsWithin d (tidied table.columns s)
  tidied_within table is (stmt.Begin l) w = tt
  tidied_within table is stmt.Commit w = tt
  tidied_within table is stmt.Rollback w = tt
  tidied_within table is (stmt.Select q) w = record {
    items = items_within table.columns q.items is.columns w.items;
    table = w.table;
    cond = cond_within q.cond w.cond;
    group = w.group;
    order = maybe_map (Some_each (KeyWithin d)) (Some_each (KeyWithin d)) (map tidy_key) (some_each_map (KeyWithin d) (KeyWithin d) tidy_key (λ k n. n)) q.order w.order;
  }
  tidied_within table is (stmt.Insert t tuples) w = (w.0, some_each_map (TupleWithin d) (TupleWithin d) tidy_tuple tuple_within tuples w.1)
  tidied_within table is (stmt.Update t assigns cond) w = (w.0, some_each_map (AssignWithin d) (AssignWithin d) tidy_assign assign_within assigns w.1, cond_within cond w.2)
  tidied_within table is (stmt.Delete t cond) w = (w.0, cond_within cond w.1)
  tidied_within table is (stmt.Lock t m) w = w
