-- A transaction's command is one of the script's lines.
use Rattle.std.proofs.Common.{◌≡◌, ◌==◌, ◌-◌, ◌+◌, ℕ, zero, suc, List, [], ◌∷◌, Option, Some, None, Bool, true, false, subst, if◌then◌else◌, ◌&&◌}
use Rattle.std.specs.Prelude.{nat_le, slice_get}
use Rattle.gx_ids.specs.declared.ids.SessionId.{SessionId}
use Rattle.gx_ids.specs.declared.ids.Table.{Table}
use Rattle.gx_tree.specs.declared.expr.Expr.{Expr}
use Rattle.gx_tree.specs.declared.schema.Dist.{Dist}
use Rattle.gx_tree.specs.declared.stmt.Level.TheVariants.{ReadCommitted}
use Rattle.gx_tree.specs.declared.stmt.Stmt.{Stmt}
use Rattle.gx_tree.specs.declared.stmt.Stmt.TheVariants as stmt
use Rattle.gx_meaning.specs.Constants.{HasKey}
use Rattle.gx_script.specs.declared.Line.{Line}
use Rattle.gx_script.specs.declared.Script.{Script}
use Rattle.gx_store.specs.Lines.{InBlock, is_command, stmt_of}
use Rattle.gx_store.specs.Marks.{is_same_session}
use Rattle.gx_store.specs.Writes.{dist_of}
use Rattle.gx_law_answers.specs.Keyed.{AreInsertsFilled, AreInsertsKeyed, AreRowsKeyed}
use Rattle.gx_store.specs.Whole.{AreInsertsWhole, HaveKeys, IsWholeStmt}
use Rattle.gx_law_order.specs.Scanned.{began_from, closes_block, command_at, command_from, nth_command}

module _ (script : Script) (all : AreInsertsWhole script.tables script.lines) where
  abbrev Is : Option Stmt → Type 0
  Is None = Unit {0}
  Is (Some s) = IsWholeStmt script.tables s

  either : (b : Bool) (x y : Option Stmt) → Is x → Is y → Is (if b then x else y)
  either true x y e f = e
  either false x y e f = f

  of-line : (k : SessionId) (n : ℕ) (ls : List Line) → AreInsertsWhole script.tables ls → Is (stmt_of k n ls)
  of-line k n [] h = tt
  of-line k n (l ∷ ls) h = either (is_same_session l.session k && (l.number == n)) (Some l.stmt) (stmt_of k n ls) h.0 (of-line k n ls h.1)

  nth : (k : SessionId) (first c : ℕ) (ls : List Line) → AreInsertsWhole script.tables ls → Is (nth_command k first c ls)
  nth k first c [] h = tt
  nth k first c (l ∷ ls) h =
      either (is_same_session l.session k && nat_le first l.number) _ (nth_command k first c ls)
      (either (is_command (InBlock ReadCommitted 0) l.stmt) _ _
      (either (c == 1) (Some l.stmt) (nth_command k first (c - 1) ls) h.0 (nth k first (c - 1) ls h.1))
      (either (closes_block l.stmt) None (nth_command k first c ls) tt (nth k first c ls h.1)))
      (nth k first c ls h.1)

  from-line : (k : SessionId) (n : ℕ) (o : Option Stmt) (c : ℕ) → Is o → Is (command_from script k n o c)
  from-line k n (Some (stmt.Begin l)) c h = nth k (n + 1) c script.lines all
  from-line k n None c h = either (c == 1) None None tt tt
  from-line k n (Some stmt.Commit) c h = either (c == 1) (Some stmt.Commit) None h tt
  from-line k n (Some stmt.Rollback) c h = either (c == 1) (Some stmt.Rollback) None h tt
  from-line k n (Some (stmt.Select q)) c h = either (c == 1) (Some (stmt.Select q)) None h tt
  from-line k n (Some (stmt.Insert t v)) c h = either (c == 1) (Some (stmt.Insert t v)) None h tt
  from-line k n (Some (stmt.Update t a d)) c h = either (c == 1) (Some (stmt.Update t a d)) None h tt
  from-line k n (Some (stmt.Delete t d)) c h = either (c == 1) (Some (stmt.Delete t d)) None h tt
  from-line k n (Some (stmt.Lock t m)) c h = either (c == 1) (Some (stmt.Lock t m)) None h tt

  at-command : (o : Option (SessionId × ℕ)) (c : ℕ) → Is (command_at script o c)
  at-command None c = tt
  at-command (Some b) c = from-line b.0 b.1 (stmt_of b.0 b.1 script.lines) c (of-line b.0 b.1 script.lines all)

  pub filled : AreInsertsFilled script
  filled = λ marks g c table e. subst Is e (at-command (began_from [] marks g) c.0)

  keys-at : (dist : Dist) (tuples : List (List Expr)) (k : ℕ) (tuple : List Expr) → HaveKeys dist tuples → slice_get tuples k ≡ Some tuple → HasKey dist tuple
  keys-at dist [] k tuple h e = absurd (cc)
  keys-at dist (t ∷ ts) zero tuple h e = subst (HasKey dist) (some-same t tuple e) h.0
    where
      some-same : (a b : List Expr) → Some a ≡ Some b → a ≡ b
      some-same a b q = cc
  keys-at dist (t ∷ ts) (suc k) tuple h e = keys-at dist ts k tuple h.1 e

  its-keys : (table : Table) (tuples : List (List Expr)) → IsWholeStmt script.tables (stmt.Insert table tuples) → HaveKeys (dist_of script.tables table.0) tuples
  its-keys table [] h = tt
  its-keys table (t ∷ ts) h = h

  inserted : AreInsertsKeyed script
  inserted = λ marks g c table tuples e k tuple there. keys-at (dist_of script.tables table.0) tuples k tuple (its-keys table tuples (subst Is e (at-command (began_from [] marks g) c.0))) there

  pub keyed : AreRowsKeyed script
  keyed = record { inserted = inserted; kept = λ table marks g c assigns cond e. subst Is e (at-command (began_from [] marks g) c.0) }
