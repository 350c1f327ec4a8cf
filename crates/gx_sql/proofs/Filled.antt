-- An INSERT that the grammar writes has no more tuples than tokens, and keeps them when its names are resolved.
use Rattle.std.proofs.Common.{◌≡◌, inl, inr, ℕ, ◌≤◌, Bool, true, false, if◌then◌else◌, List, [], ◌∷◌, Option, Some, None, Ok, Err, length, sym, ◌∙◌, ap, subst, arith}
use Rattle.std.specs.Option.{option_and_then}
use Rattle.std.proofs.lemmas.List.{length-append}
use Rattle.gx_ids.specs.declared.ids.Table.{Table}
use Rattle.gx_lex.specs.declared.token.Token.{Token}
use Rattle.gx_tree.specs.declared.schema.Column.{Column}
use Rattle.gx_tree.specs.declared.schema.Dist.{Dist}
use Rattle.gx_tree.specs.declared.schema.Schema.{Schema}
use Rattle.gx_tree.specs.declared.stmt.Level.{Level}
use Rattle.gx_tree.specs.declared.stmt.Stmt.{Stmt}
use Rattle.gx_tree.specs.declared.stmt.Stmt.TheVariants as stmt
use Rattle.gx_grammar.specs.declared.fault.Limits.{Limits}
use Rattle.gx_lines.specs.declared.syn.StmtSyn.{StmtSyn}
use Rattle.gx_lines.specs.declared.syn.StmtSyn.TheVariants as stmt_syn
use Rattle.gx_lines.specs.Statements as rule
use Rattle.gx_resolve.specs.Results.{Answer, each}
use Rattle.gx_resolve.specs.Naming.{names_of, names_right}
use Rattle.gx_resolve.specs.Kinding.{where_as, tuple_as, assign_as}
use Rattle.gx_resolve.specs.Selecting.{query_as}
use Rattle.gx_resolve.specs.Resolving.{kinded, sets_key, key_kept, over_found, stmt_from, stmt_of, table_named, table_after}
use Rattle.gx_resolve.specs.declared.fault.NameFault.TheVariants.{KeyUpdate}
use Rattle.gx_resolve.proofs.Keeping.{bind-ok, same_ok}
use Rattle.gx_store.specs.Limits.{HasTuplesTo}
use Rattle.gx_sql.proofs.Sizes.{items-few}

abbrev pub IsWritten : ℕ → StmtSyn → Type 0
IsWritten most (stmt_syn.Insert table tuples) = length tuples ≤ most
IsWritten most _ = Unit {0}

pub more-written : (m n : ℕ) (s : StmtSyn) → m ≤ n → IsWritten m s → IsWritten n s
more-written m n (stmt_syn.Insert table tuples) more h = omega (arith, h, more)
more-written m n (stmt_syn.Begin level) more h = tt
more-written m n stmt_syn.Commit more h = tt
more-written m n stmt_syn.Rollback more h = tt
more-written m n (stmt_syn.Select select) more h = tt
more-written m n (stmt_syn.Update table assigns cond) more h = tt
more-written m n (stmt_syn.Delete table cond) more h = tt
more-written m n (stmt_syn.Lock table mode) more h = tt

-- BY THE GRAMMAR
begin-written : (most : ℕ) (level : Option Level) → IsWritten most (rule.level_or level)
begin-written most None = tt
begin-written most (Some level) = tt

insert-written : (d : Limits) (s : StmtSyn) (ts : List Token) → rule.insert d s ts → IsWritten (length ts) s
insert-written d s ts (a, e, (us, vs, name, (p, f, (ws, xs, (y, is, one), (q, g, (hs, bs, first, rest, list)), cut)), all)) =
    let few = items-few (rule.tuple d) q.1 bs rest in
    let word = ap length one in
    let items = ap length list ∙ length-append hs bs in
    let values = ap length cut ∙ length-append ws xs in
    let whole = ap length all ∙ length-append us vs in
    let tuples = ap length (f ∙ g) in
    subst (IsWritten (length ts)) (sym e) (omega (arith, few, word, items, values, whole, tuples))

pub stmt-written : (d : Limits) (s : StmtSyn) (ts : List Token) → rule.stmt d s ts → IsWritten (length ts) s
stmt-written d s ts (inl (level, e, w)) = subst (IsWritten (length ts)) (sym e) (begin-written (length ts) level)
stmt-written d s ts (inr (inl (u, e, w))) = subst (IsWritten (length ts)) (sym e) tt
stmt-written d s ts (inr (inr (inl (u, e, w)))) = subst (IsWritten (length ts)) (sym e) tt
stmt-written d s ts (inr (inr (inr (inl (select, e, w))))) = subst (IsWritten (length ts)) (sym e) tt
stmt-written d s ts (inr (inr (inr (inr (inl w))))) = insert-written d s ts w
stmt-written d s ts (inr (inr (inr (inr (inr (inl (p, e, w))))))) = subst (IsWritten (length ts)) (sym e) tt
stmt-written d s ts (inr (inr (inr (inr (inr (inr (inl (p, e, w)))))))) = subst (IsWritten (length ts)) (sym e) tt
stmt-written d s ts (inr (inr (inr (inr (inr (inr (inr (p, e, w)))))))) = subst (IsWritten (length ts)) (sym e) tt

-- RESOLVED
each-long : {A B : Type 0} (f : A → Answer B) (xs : List A) (ys : List B) → each f xs ≡ Ok ys → length ys ≡ length xs
each-long f [] ys h = ap length (sym (same_ok [] ys h))
each-long f (x ∷ xs) ys h =
    let first = bind-ok (f x) _ ys h in
    let rest = bind-ok (each f xs) _ ys first.2 in
    let long = each-long f xs rest.0 rest.1 in
    let whole = ap length (sym (same_ok (first.0 ∷ rest.0) ys rest.2)) in
    omega (arith, long, whole)

each-few : {A B : Type 0} (most : ℕ) (f : A → Answer B) (xs : List A) (ys : List B) → each f xs ≡ Ok ys → length xs ≤ most → length ys ≤ most
each-few most f xs ys h few = let long = each-long f xs ys h in omega (arith, long, few)

kinded-filled : (most : ℕ) (table : Table) (columns : List Column) (written : StmtSyn) (r : Stmt) → kinded table columns written ≡ Ok r → IsWritten most written → HasTuplesTo most r
kinded-filled most table columns (stmt_syn.Begin level) r h one = subst (HasTuplesTo most) (same_ok (stmt.Begin level) r h) tt
kinded-filled most table columns stmt_syn.Commit r h one = subst (HasTuplesTo most) (same_ok stmt.Commit r h) tt
kinded-filled most table columns stmt_syn.Rollback r h one = subst (HasTuplesTo most) (same_ok stmt.Rollback r h) tt
kinded-filled most table columns (stmt_syn.Select select) r h one =
    let query = bind-ok (query_as table columns select) _ r h in
    subst (HasTuplesTo most) (same_ok (stmt.Select query.0) r query.2) tt
kinded-filled most table columns (stmt_syn.Insert name tuples) r h one =
    let rows = bind-ok (each (tuple_as columns) tuples) _ r h in
    subst (HasTuplesTo most) (same_ok (stmt.Insert table rows.0) r rows.2) (each-few most (tuple_as columns) tuples rows.0 rows.1 one)
kinded-filled most table columns (stmt_syn.Update name assigns cond) r h one =
    let set = bind-ok (each (assign_as columns) assigns) _ r h in
    let found = bind-ok (where_as columns cond) _ r set.2 in
    subst (HasTuplesTo most) (same_ok (stmt.Update table set.0 found.0) r found.2) tt
kinded-filled most table columns (stmt_syn.Delete name cond) r h one =
    let found = bind-ok (where_as columns cond) _ r h in
    subst (HasTuplesTo most) (same_ok (stmt.Delete table found.0) r found.2) tt
kinded-filled most table columns (stmt_syn.Lock name mode) r h one = subst (HasTuplesTo most) (same_ok (stmt.Lock table mode) r h) tt

kept-same : (d : Dist) (r s : Stmt) → key_kept d r ≡ Ok s → r ≡ s
kept-same d r s h = by_test (sets_key d r) h
  where
    by_test : (b : Bool) → (if b then Err KeyUpdate else Ok r) ≡ Ok s → r ≡ s
    by_test true e = absurd cc
    by_test false e = same_ok r s e

over_found-filled : (most : ℕ) (found : Option (Table × Schema)) (written : StmtSyn) (s : Stmt) → over_found found written ≡ Ok s → IsWritten most written → HasTuplesTo most s
over_found-filled most None written s h one = absurd cc
over_found-filled most (Some (table, schema)) written s h one =
    let names = bind-ok (names_right schema.columns [] (names_of written)) _ s h in
    let r = bind-ok (kinded table schema.columns written) _ s names.2 in
    subst (HasTuplesTo most) (kept-same schema.dist r.0 s r.2) (kinded-filled most table schema.columns written r.0 r.1 one)

stmt_from-filled : (most : ℕ) (found : Option (Table × Schema)) (written : StmtSyn) (s : Stmt) → stmt_from found written ≡ Ok s → IsWritten most written → HasTuplesTo most s
stmt_from-filled most found (stmt_syn.Begin level) s h one = subst (HasTuplesTo most) (same_ok (stmt.Begin level) s h) tt
stmt_from-filled most found stmt_syn.Commit s h one = subst (HasTuplesTo most) (same_ok stmt.Commit s h) tt
stmt_from-filled most found stmt_syn.Rollback s h one = subst (HasTuplesTo most) (same_ok stmt.Rollback s h) tt
stmt_from-filled most found (stmt_syn.Select select) s h one = over_found-filled most found (stmt_syn.Select select) s h one
stmt_from-filled most found (stmt_syn.Insert name tuples) s h one = over_found-filled most found (stmt_syn.Insert name tuples) s h one
stmt_from-filled most found (stmt_syn.Update name set cond) s h one = over_found-filled most found (stmt_syn.Update name set cond) s h one
stmt_from-filled most found (stmt_syn.Delete name cond) s h one = over_found-filled most found (stmt_syn.Delete name cond) s h one
stmt_from-filled most found (stmt_syn.Lock name mode) s h one = over_found-filled most found (stmt_syn.Lock name mode) s h one

pub stmt_of-filled : (most : ℕ) (tables : List Schema) (written : StmtSyn) (s : Stmt) → stmt_of tables written ≡ Ok s → IsWritten most written → HasTuplesTo most s
stmt_of-filled most tables written s h one = stmt_from-filled most (option_and_then (λ (name : List ℕ). table_after 0 name tables) (table_named written)) written s h one
