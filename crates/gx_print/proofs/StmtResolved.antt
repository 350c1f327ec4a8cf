-- A statement that was read is printed as one that is read as the same.
use Rattle.std.proofs.Common.{◌≡◌, ℕ, zero, suc, ◌+◌, nat_eq, Bool, true, false, if◌then◌else◌, List, [], ◌∷◌, map, slice_get, Option, Some, None, Ok, Err, refl, sym, ◌∙◌, ap, subst, arith}
use Rattle.std.specs.Option.{option_map}
use Rattle.std.specs.Cmp.Lexicographic.{pointwise}
use Rattle.gx_ids.specs.declared.ids.Table.{Table}
use Rattle.gx_tree.specs.declared.schema.Column.{Column}
use Rattle.gx_tree.specs.declared.schema.Schema.{Schema}
use Rattle.gx_tree.specs.declared.stmt.Stmt.{Stmt}
use Rattle.gx_tree.specs.declared.stmt.Stmt.TheVariants as stmt
use Rattle.gx_modes.specs.declared.modes.Mode.{Mode}
use Rattle.gx_grammar.specs.declared.fault.Limits.{Limits}
use Rattle.gx_grammar.specs.declared.syn.Syn.{Syn}
use Rattle.gx_lines.specs.declared.syn.SelectSyn.{SelectSyn}
use Rattle.gx_lines.specs.declared.syn.TupleSyn.{TupleSyn}
use Rattle.gx_lines.specs.declared.syn.AssignSyn.{AssignSyn}
use Rattle.gx_lines.specs.declared.syn.StmtSyn.{StmtSyn}
use Rattle.gx_lines.specs.declared.syn.StmtSyn.TheVariants as stmt_syn
use Rattle.gx_resolve.specs.declared.fault.NameFault.TheVariants.{KeyUpdate}
use Rattle.gx_resolve.specs.Results.{Answer, ◌>>=◌, each}
use Rattle.gx_resolve.specs.Naming.{Name, Used, names_of, names_right}
use Rattle.gx_resolve.specs.Kinding.{where_as, tuple_as, assign_as}
use Rattle.gx_resolve.specs.Selecting.{query_as}
use Rattle.gx_resolve.specs.Resolving.{kinded, sets_key, key_kept, over_found, table_after, stmt_of}
use Rattle.gx_meaning.specs.Statements.{AreDistinct, column_text}
use Rattle.gx_print.specs.Limited.{Each, Some_each, IsWithin, StmtClear}
use Rattle.gx_print.specs.Written.{name_of_schema, columns_of_schema, table_name, columns_of, cond_syn, tuple_syn, assign_syn, select_syn, written}
use Rattle.gx_print.proofs.Texts.{StmtOne, tidied_one}
use Rattle.gx_print.proofs.Tidied.{tidy, tidy_select, tidy_tuple, tidy_assign, tidied}
use Rattle.gx_print.specs.Reading.{IsColumnOf, IsTable, AreTables, HasSize}
use Rattle.gx_print.specs.Shapes.{IsName}
use Rattle.gx_print.proofs.StmtCleared.{select_clear, insert_clear, update_clear, delete_clear}
use Rattle.gx_print.proofs.Tidying.{HasName, same_text}
use Rattle.gx_print.proofs.TidyWithin.{tidied_within}
use Rattle.gx_print.proofs.Resolved.{bound, same_ok, goes, list_again, where_again, tuple_again, assign_again}
use Rattle.gx_print.proofs.QueryResolved.{query_again}
use Rattle.gx_print.proofs.StmtNames.{where_same, tuples_same, update_same, select_right}

-- TABLES
-- the table that is found, counted from a place
abbrev FoundAt : List Schema → ℕ → List ℕ → Table × Schema → Type 0
FoundAt tables from name f = (i : ℕ) × (f.0.0 ≡ from + i) × (slice_get tables i ≡ Some f.1) × (f.1.name ≡ name)

found_by : (x : Schema) (xs : List Schema) (from : ℕ) (name : List ℕ) (f : Table × Schema) (b : Bool) → pointwise nat_eq x.name name ≡ b → (if b then Some (record { 0 = from }, x) else table_after (from + 1) name xs) ≡ Some f → (table_after (from + 1) name xs ≡ Some f → FoundAt xs (from + 1) name f) → FoundAt (x ∷ xs) from name f
found_by x xs from name f true t e rest =
    let this : Table = record { 0 = from } in
    let same : (this, x) ≡ f = cc in
    let place : from ≡ f.0.0 = ap (λ (p : Table × Schema). p.0.0) same in
    let schema : x ≡ f.1 = ap (λ (p : Table × Schema). p.1) same in
    (0, omega arith, ap (λ (y : Schema). Some y) schema, subst (λ (y : Schema). y.name ≡ name) schema (same_text x.name name t))
found_by x xs from name f false t e rest = let (i, p, g, n) = rest e in (suc i, omega arith, g, n)

found_from : (tables : List Schema) (from : ℕ) (name : List ℕ) (f : Table × Schema) → table_after from name tables ≡ Some f → FoundAt tables from name f
found_from [] from name f e = absurd (cc)
found_from (x ∷ xs) from name f e = found_by x xs from name f (pointwise nat_eq x.name name) refl e (found_from xs (from + 1) name f)

record Found (tables : List Schema) (name : List ℕ) (f : Table × Schema) : Type 0 where
  pub named : table_name tables f.0.0 ≡ name
  pub columns : columns_of tables f.0.0 ≡ f.1.columns
  pub at : slice_get tables f.0.0 ≡ Some f.1
  pub called : f.1.name ≡ name

found : (tables : List Schema) (name : List ℕ) (f : Table × Schema) → table_after 0 name tables ≡ Some f → Found tables name f
found tables name f e =
    let (i, p, g, n) = found_from tables 0 name f e in
    let same : i ≡ f.0.0 = omega arith in
    let at : slice_get tables f.0.0 ≡ Some f.1 = subst (λ (k : ℕ). slice_get tables k ≡ Some f.1) same g in
    record { named = ap name_of_schema at ∙ n; columns = ap columns_of_schema at; at = at; called = n }

pub each_at : {A : Type 0} (P : A → Type 0) (xs : List A) (i : ℕ) (x : A) → Each P xs → slice_get xs i ≡ Some x → P x
each_at P [] i x e h = absurd (cc)
each_at P (y ∷ ys) zero x e h = let same : y ≡ x = cc in subst P same e.0
each_at P (y ∷ ys) (suc i) x e h = each_at P ys i x e.1 h

each_column : (d : Limits) (cs : List Column) → Each (IsColumnOf d) cs → Each HasName cs
each_column d [] e = tt
each_column d (c ∷ cs) e = (e.0.0, each_column d cs e.1)

columns_clear : (d : Limits) (cs : List Column) → Some_each (IsColumnOf d) cs → Each HasName cs
columns_clear d [] e = absurd e
columns_clear d (c ∷ cs) e = (e.0.0, each_column d cs e.1)

-- KINDS
kept_is : (b : Bool) (r x : Stmt) → ◌≡◌ {A = Answer Stmt} (if b then Err KeyUpdate else Ok r) (Ok x) → r ≡ x
kept_is true r x h = absurd (cc)
kept_is false r x h = same_ok r x h

-- what is written of a statement over a table of a name and of columns
abbrev written_over : List ℕ → List Column → Stmt → StmtSyn
written_over name columns (stmt.Begin l) = stmt_syn.Begin l
written_over name columns stmt.Commit = stmt_syn.Commit
written_over name columns stmt.Rollback = stmt_syn.Rollback
written_over name columns (stmt.Select q) = stmt_syn.Select (select_syn name columns q)
written_over name columns (stmt.Insert t tuples) = stmt_syn.Insert name (map (tuple_syn columns) tuples)
written_over name columns (stmt.Update t assigns cond) = stmt_syn.Update name (map (assign_syn columns) assigns) (option_map (cond_syn columns) cond)
written_over name columns (stmt.Delete t cond) = stmt_syn.Delete name (option_map (cond_syn columns) cond)
written_over name columns (stmt.Lock t m) = stmt_syn.Lock name m

-- the statement's table is this one
abbrev IsOf : ℕ → Stmt → Type 0
IsOf n (stmt.Select q) = q.table.0 ≡ n
IsOf n (stmt.Insert t tuples) = t.0 ≡ n
IsOf n (stmt.Update t assigns cond) = t.0 ≡ n
IsOf n (stmt.Delete t cond) = t.0 ≡ n
IsOf n (stmt.Lock t m) = t.0 ≡ n
IsOf n _ = Unit {0}

over_is : (tables : List Schema) (n : ℕ) (x : Stmt) → IsOf n x → written tables x ≡ written_over (table_name tables n) (columns_of tables n) x
over_is tables n (stmt.Begin l) e = refl
over_is tables n stmt.Commit e = refl
over_is tables n stmt.Rollback e = refl
over_is tables n (stmt.Select q) e = ap (λ (k : ℕ). written_over (table_name tables k) (columns_of tables k) (stmt.Select q)) e
over_is tables n (stmt.Insert t tuples) e = ap (λ (k : ℕ). written_over (table_name tables k) (columns_of tables k) (stmt.Insert t tuples)) e
over_is tables n (stmt.Update t assigns cond) e = ap (λ (k : ℕ). written_over (table_name tables k) (columns_of tables k) (stmt.Update t assigns cond)) e
over_is tables n (stmt.Delete t cond) e = ap (λ (k : ℕ). written_over (table_name tables k) (columns_of tables k) (stmt.Delete t cond)) e
over_is tables n (stmt.Lock t m) e = ap (λ (k : ℕ). written_over (table_name tables k) (columns_of tables k) (stmt.Lock t m)) e

record KindedAgain (table : Table) (name : List ℕ) (columns : List Column) (s : StmtSyn) (x : Stmt) : Type 0 where
  pub of : IsOf table.0 x
  pub written : written_over name columns x ≡ tidied columns s
  pub again : kinded table columns (tidied columns s) ≡ Ok x

module _ (d : Limits) (table : Table) (columns : List Column) (clear : Each HasName columns) (distinct : AreDistinct (map column_text columns)) where
  select_kinded : (q : SelectSyn) (x : Stmt) → IsWithin d (stmt_syn.Select q) → kinded table columns (stmt_syn.Select q) ≡ Ok x → KindedAgain table q.table columns (stmt_syn.Select q) x
  select_kinded q x w h =
      let (r, p, e) = bound (query_as table columns q) (λ r. Ok (stmt.Select r)) x h in
      let a = query_again d table columns q r clear distinct w p in
      subst (KindedAgain table q.table columns (stmt_syn.Select q)) (same_ok (stmt.Select r) x e) (record {
        of = ap (λ (t : Table). t.0) a.table_is;
        written = ap stmt_syn.Select a.written;
        again = goes (query_as table columns (tidy_select columns q)) (λ r. Ok (stmt.Select r)) r (stmt.Select r) a.again refl;
      })

  insert_kinded : (t : List ℕ) (tuples : List TupleSyn) (x : Stmt) → kinded table columns (stmt_syn.Insert t tuples) ≡ Ok x → KindedAgain table t columns (stmt_syn.Insert t tuples) x
  insert_kinded t tuples x h =
      let (rows, p, e) = bound (each (tuple_as columns) tuples) (λ rows. Ok (stmt.Insert table rows)) x h in
      let a = list_again (tuple_as columns) (tuple_syn columns) tidy_tuple (tuple_again columns clear) tuples rows p in
      subst (KindedAgain table t columns (stmt_syn.Insert t tuples)) (same_ok (stmt.Insert table rows) x e) (record {
        of = refl;
        written = ap (λ (ts : List TupleSyn). stmt_syn.Insert t ts) a.written;
        again = goes (each (tuple_as columns) (map tidy_tuple tuples)) (λ rows. Ok (stmt.Insert table rows)) rows (stmt.Insert table rows) a.again refl;
      })

  update_kinded : (t : List ℕ) (assigns : List AssignSyn) (cond : Option Syn) (x : Stmt) → kinded table columns (stmt_syn.Update t assigns cond) ≡ Ok x → KindedAgain table t columns (stmt_syn.Update t assigns cond) x
  update_kinded t assigns cond x h =
      let (set, p, h) = bound (each (assign_as columns) assigns) (λ set. where_as columns cond >>= λ c. Ok (stmt.Update table set c)) x h in
      let (c, q, e) = bound (where_as columns cond) (λ c. Ok (stmt.Update table set c)) x h in
      let a = list_again (assign_as columns) (assign_syn columns) tidy_assign (assign_again columns clear) assigns set p in
      let b = where_again columns clear cond c q in
      subst (KindedAgain table t columns (stmt_syn.Update t assigns cond)) (same_ok (stmt.Update table set c) x e) (record {
        of = refl;
        written = ap (λ (xs : List AssignSyn). stmt_syn.Update t xs (option_map (cond_syn columns) c)) a.written ∙ ap (λ (o : Option Syn). stmt_syn.Update t (map tidy_assign assigns) o) b.written;
        again = goes (each (assign_as columns) (map tidy_assign assigns)) (λ set. where_as columns (option_map tidy cond) >>= λ c. Ok (stmt.Update table set c)) set (stmt.Update table set c) a.again (goes (where_as columns (option_map tidy cond)) (λ c. Ok (stmt.Update table set c)) c (stmt.Update table set c) b.again refl);
      })

  delete_kinded : (t : List ℕ) (cond : Option Syn) (x : Stmt) → kinded table columns (stmt_syn.Delete t cond) ≡ Ok x → KindedAgain table t columns (stmt_syn.Delete t cond) x
  delete_kinded t cond x h =
      let (c, q, e) = bound (where_as columns cond) (λ c. Ok (stmt.Delete table c)) x h in
      let b = where_again columns clear cond c q in
      subst (KindedAgain table t columns (stmt_syn.Delete t cond)) (same_ok (stmt.Delete table c) x e) (record {
        of = refl;
        written = ap (λ (o : Option Syn). stmt_syn.Delete t o) b.written;
        again = goes (where_as columns (option_map tidy cond)) (λ c. Ok (stmt.Delete table c)) c (stmt.Delete table c) b.again refl;
      })

  lock_kinded : (t : List ℕ) (m : Mode) (x : Stmt) → kinded table columns (stmt_syn.Lock t m) ≡ Ok x → KindedAgain table t columns (stmt_syn.Lock t m) x
  lock_kinded t m x h = subst (KindedAgain table t columns (stmt_syn.Lock t m)) (same_ok (stmt.Lock table m) x h) (record { of = refl; written = refl; again = refl })

-- STATEMENTS OVER A TABLE
record OverAgain (d : Limits) (tables : List Schema) (name : List ℕ) (s : StmtSyn) (x : Stmt) : Type 0 where
  pub schema : Schema
  pub table : IsTable d schema
  pub clear : StmtClear (tidied schema.columns s)
  pub written : written tables x ≡ tidied schema.columns s
  pub again : over_found (table_after 0 name tables) (tidied schema.columns s) ≡ Ok x

over_again : (d : Limits) (tables : List Schema) (name : List ℕ) (s : StmtSyn) (x : Stmt) → AreTables d tables
    → ((columns : List Column) → names_right columns [] (names_of (tidied columns s)) ≡ names_right columns [] (names_of s))
    → ((table : Table) (columns : List Column) (r : Stmt) → Each HasName columns → AreDistinct (map column_text columns) → kinded table columns s ≡ Ok r → KindedAgain table name columns s r)
    → ((table : Table) (columns : List Column) (r : Stmt) → Some_each (IsColumnOf d) columns → Each HasName columns → IsName name → HasSize r → kinded table columns s ≡ Ok r → StmtClear (tidied columns s))
    → HasSize x
    → (o : Option (Table × Schema)) → table_after 0 name tables ≡ o → over_found o s ≡ Ok x → OverAgain d tables name s x
over_again d tables name s x are names kinds clears size None e h = absurd (cc)
over_again d tables name s x are names kinds clears size (Some f) e h =
    let (u, p, h) = bound (names_right f.1.columns [] (names_of s)) (λ u. kinded f.0 f.1.columns s >>= λ r. key_kept f.1.dist r) x h in
    let (r, q, h) = bound (kinded f.0 f.1.columns s) (λ r. key_kept f.1.dist r) x h in
    let here = found tables name f e in
    let is : IsTable d f.1 = each_at (IsTable d) tables f.0.0 f.1 are here.at in
    let a = kinds f.0 f.1.columns r (columns_clear d f.1.columns is.columns) is.distinct q in
    let same : r ≡ x = kept_is (sets_key f.1.dist r) r x h in
    let text : written tables r ≡ tidied f.1.columns s = over_is tables f.0.0 r a.of ∙ ap (λ (n : List ℕ). written_over n (columns_of tables f.0.0) r) here.named ∙ ap (λ (cs : List Column). written_over name cs r) here.columns ∙ a.written in
    record {
      schema = f.1;
      table = is;
      clear = clears f.0 f.1.columns r is.columns (columns_clear d f.1.columns is.columns) (subst IsName here.called is.name.0) (subst HasSize (sym same) size) q;
      written = subst (λ (y : Stmt). written tables y ≡ tidied f.1.columns s) same text;
      again = ap (λ (o : Option (Table × Schema)). over_found o (tidied f.1.columns s)) e
          ∙ goes (names_right f.1.columns [] (names_of (tidied f.1.columns s))) (λ u. kinded f.0 f.1.columns (tidied f.1.columns s) >>= λ r. key_kept f.1.dist r) u x (names f.1.columns ∙ p) (goes (kinded f.0 f.1.columns (tidied f.1.columns s)) (λ r. key_kept f.1.dist r) r x a.again h);
    }

-- ALL STATEMENTS
pub record ReadAgain (d : Limits) (tables : List Schema) (s : StmtSyn) (x : Stmt) : Type 0 where
  pub within : IsWithin d (written tables x)
  pub clear : StmtClear (written tables x)
  pub again : stmt_of tables (written tables x) ≡ Ok x
  pub texts : StmtOne s → StmtOne (written tables x)

plain_again : (d : Limits) (tables : List Schema) (s : StmtSyn) (x : Stmt) → IsWithin d s → StmtClear s → written tables x ≡ s → stmt_of tables s ≡ Ok x → ReadAgain d tables s x
plain_again d tables s x w c e h = record { within = subst (IsWithin d) (sym e) w; clear = subst StmtClear (sym e) c; again = ap (stmt_of tables) e ∙ h; texts = λ one. subst StmtOne (sym e) one }

table_again : (d : Limits) (tables : List Schema) (name : List ℕ) (s : StmtSyn) (x : Stmt) → IsWithin d s → OverAgain d tables name s x → ((columns : List Column) → stmt_of tables (tidied columns s) ≡ over_found (table_after 0 name tables) (tidied columns s)) → ReadAgain d tables s x
table_again d tables name s x w o is =
    record { within = subst (IsWithin d) (sym o.written) (tidied_within d o.schema o.table s w); clear = subst StmtClear (sym o.written) o.clear; again = ap (stmt_of tables) o.written ∙ is o.schema.columns ∙ o.again; texts = λ one. subst StmtOne (sym o.written) (tidied_one o.schema.columns s one) }

pub read_again : (d : Limits) (tables : List Schema) (s : StmtSyn) (x : Stmt) → AreTables d tables → IsWithin d s → HasSize x → stmt_of tables s ≡ Ok x → ReadAgain d tables s x
read_again d tables (stmt_syn.Begin l) x are w size h = plain_again d tables (stmt_syn.Begin l) x w tt (subst (λ (y : Stmt). written tables y ≡ stmt_syn.Begin l) (same_ok (stmt.Begin l) x h) refl) h
read_again d tables stmt_syn.Commit x are w size h = plain_again d tables stmt_syn.Commit x w tt (subst (λ (y : Stmt). written tables y ≡ stmt_syn.Commit) (same_ok stmt.Commit x h) refl) h
read_again d tables stmt_syn.Rollback x are w size h = plain_again d tables stmt_syn.Rollback x w tt (subst (λ (y : Stmt). written tables y ≡ stmt_syn.Rollback) (same_ok stmt.Rollback x h) refl) h
read_again d tables (stmt_syn.Select q) x are w size h = table_again d tables q.table (stmt_syn.Select q) x w (over_again d tables q.table (stmt_syn.Select q) x are (λ columns. select_right columns q) (λ table columns r clear distinct p. select_kinded d table columns clear distinct q r w p) (λ table columns r some clear name size p. select_clear d columns some clear table q r w name p size) size (table_after 0 q.table tables) refl h) (λ columns. refl)
read_again d tables (stmt_syn.Insert t tuples) x are w size h = table_again d tables t (stmt_syn.Insert t tuples) x w (over_again d tables t (stmt_syn.Insert t tuples) x are (λ columns. ap (λ (ns : List (List ℕ)). names_right columns [] (map Used ns)) (tuples_same tuples)) (λ table columns r clear distinct p. insert_kinded d table columns clear distinct t tuples r p) (λ table columns r some clear name size p. insert_clear d columns some clear table t tuples r w name p) size (table_after 0 t tables) refl h) (λ columns. refl)
read_again d tables (stmt_syn.Update t assigns cond) x are w size h = table_again d tables t (stmt_syn.Update t assigns cond) x w (over_again d tables t (stmt_syn.Update t assigns cond) x are (λ columns. ap (λ (ns : List Name). names_right columns [] ns) (update_same assigns cond)) (λ table columns r clear distinct p. update_kinded d table columns clear distinct t assigns cond r p) (λ table columns r some clear name size p. update_clear d columns some clear table t assigns cond r w name p) size (table_after 0 t tables) refl h) (λ columns. refl)
read_again d tables (stmt_syn.Delete t cond) x are w size h = table_again d tables t (stmt_syn.Delete t cond) x w (over_again d tables t (stmt_syn.Delete t cond) x are (λ columns. ap (λ (ns : List (List ℕ)). names_right columns [] (map Used ns)) (where_same cond)) (λ table columns r clear distinct p. delete_kinded d table columns clear distinct t cond r p) (λ table columns r some clear name size p. delete_clear d columns some clear table t cond r name p) size (table_after 0 t tables) refl h) (λ columns. refl)
read_again d tables (stmt_syn.Lock t m) x are w size h = table_again d tables t (stmt_syn.Lock t m) x w (over_again d tables t (stmt_syn.Lock t m) x are (λ columns. refl) (λ table columns r clear distinct p. lock_kinded d table columns clear distinct t m r p) (λ table columns r some clear name size p. name) size (table_after 0 t tables) refl h) (λ columns. refl)
