-- What a script that only inserts has: its commands are INSERTs.
use Rattle.std.proofs.Common.{◌≡◌, ℕ, ◌+◌, ◌-◌, List, [], ◌∷◌, Option, Some, None, Bool, true, false, refl, subst, if◌then◌else◌, ◌&&◌, ◌==◌}
use Rattle.std.specs.Prelude.{nat_le}
use Rattle.gx_lemmas.proofs.Options.{some-same}
use Rattle.gx_ids.specs.declared.ids.Cid.{Cid}
use Rattle.gx_ids.specs.declared.ids.Gxid.{Gxid}
use Rattle.gx_ids.specs.declared.ids.Node.{Node}
use Rattle.gx_ids.specs.declared.ids.SessionId.{SessionId}
use Rattle.gx_ids.specs.declared.ids.Table.{Table}
use Rattle.gx_tree.specs.declared.expr.Expr.{Expr}
use Rattle.gx_tree.specs.declared.slice.Slice.{Slice}
use Rattle.gx_tree.specs.declared.slice.Slice.TheVariants as slice
use Rattle.gx_tree.specs.declared.stmt.Level.{Level}
use Rattle.gx_tree.specs.declared.stmt.Level.TheVariants.{ReadCommitted}
use Rattle.gx_tree.specs.declared.stmt.Stmt.{Stmt}
use Rattle.gx_tree.specs.declared.stmt.Stmt.TheVariants as stmt
use Rattle.gx_dsnap.specs.declared.snapshot.Snapshot.{Snapshot}
use Rattle.gx_script.specs.declared.Line.{Line}
use Rattle.gx_script.specs.declared.Script.{Script}
use Rattle.gx_store.specs.declared.mark.Mark.{Mark}
use Rattle.gx_store.specs.Lines.{BlockState, InBlock, Outside, Failed, is_command, stmt_of}
use Rattle.gx_store.specs.Marks.{is_same_session}
use Rattle.gx_law_order.specs.Scanned.{began_from, closes_block, command_at, command_from, nth_command}
use Rattle.gx_law_order.specs.Orders.{IsOrder}
use Rattle.gx_law_writes.specs.Inserting.{AreInserting, is_inserting}
use Rattle.gx_law_writes.proofs.Pieces.{IsSliceOf, order-slice}
use Rattle.gx_law_writes.proofs.Told.{may_fail}

pub stmt-inserting : (k : SessionId) (n : ℕ) (ls : List Line) (st : Stmt) → AreInserting ls → stmt_of k n ls ≡ Some st → is_inserting st ≡ true
stmt-inserting k n [] st a e = absurd (cc)
stmt-inserting k n (l ∷ ls) st a e = by_test (is_same_session l.session k && (l.number == n)) e (λ f. stmt-inserting k n ls st a.1 f)
  where
    by_test : (b : Bool) → (if b then Some l.stmt else stmt_of k n ls) ≡ Some st → (stmt_of k n ls ≡ Some st → is_inserting st ≡ true) → is_inserting st ≡ true
    by_test true f later = subst (λ s. is_inserting s ≡ true) (some-same l.stmt st f) a.0
    by_test false f later = later f

nth-inserting : (k : SessionId) (first c : ℕ) (ls : List Line) (st : Stmt) → AreInserting ls → nth_command k first c ls ≡ Some st → is_inserting st ≡ true
nth-inserting k first c [] st a e = absurd (cc)
nth-inserting k first c (l ∷ ls) st a e = by_tests (is_same_session l.session k && nat_le first l.number) (is_command (InBlock ReadCommitted 0) l.stmt) (c == 1) (closes_block l.stmt) e (λ d f. nth-inserting k first d ls st a.1 f)
  where
    none : (let o : Option Stmt = None in o) ≡ Some st → ⊥
    none q = cc

    by_tests : (p q r t : Bool) → (if p then (if q then (if r then Some l.stmt else nth_command k first (c - 1) ls) else (if t then None else nth_command k first c ls)) else nth_command k first c ls) ≡ Some st → ((d : ℕ) → nth_command k first d ls ≡ Some st → is_inserting st ≡ true) → is_inserting st ≡ true
    by_tests true true true t f later = subst (λ s. is_inserting s ≡ true) (some-same l.stmt st f) a.0
    by_tests true true false t f later = later (c - 1) f
    by_tests true false r true f later = absurd (none f)
    by_tests true false r false f later = later c f
    by_tests false q r t f later = later c f

module _ (script : Script) (a : AreInserting script.lines) where
  one-inserting : (o : Option Stmt) (c : ℕ) (st : Stmt) → ((s : Stmt) → o ≡ Some s → is_inserting s ≡ true) → (if c == 1 then o else None) ≡ Some st → is_inserting st ≡ true
  one-inserting o c st f e = by_test (c == 1) e
    where
      none : (let p : Option Stmt = None in p) ≡ Some st → ⊥
      none q = cc

      by_test : (b : Bool) → (if b then o else None) ≡ Some st → is_inserting st ≡ true
      by_test true e = f st e
      by_test false e = absurd (none e)

  from-inserting : (k : SessionId) (n : ℕ) (o : Option Stmt) (c : ℕ) (st : Stmt) → ((s : Stmt) → o ≡ Some s → is_inserting s ≡ true) → command_from script k n o c ≡ Some st → is_inserting st ≡ true
  from-inserting k n (Some (stmt.Begin level)) c st f e = nth-inserting k (n + 1) c script.lines st a e
  from-inserting k n None c st f e = one-inserting None c st f e
  from-inserting k n (Some stmt.Commit) c st f e = one-inserting (Some stmt.Commit) c st f e
  from-inserting k n (Some stmt.Rollback) c st f e = one-inserting (Some stmt.Rollback) c st f e
  from-inserting k n (Some (stmt.Select q)) c st f e = one-inserting (Some (stmt.Select q)) c st f e
  from-inserting k n (Some (stmt.Insert t v)) c st f e = one-inserting (Some (stmt.Insert t v)) c st f e
  from-inserting k n (Some (stmt.Update t x v)) c st f e = one-inserting (Some (stmt.Update t x v)) c st f e
  from-inserting k n (Some (stmt.Delete t v)) c st f e = one-inserting (Some (stmt.Delete t v)) c st f e
  from-inserting k n (Some (stmt.Lock t m)) c st f e = one-inserting (Some (stmt.Lock t m)) c st f e

  command-inserting : (o : Option (SessionId × ℕ)) (c : ℕ) (st : Stmt) → command_at script o c ≡ Some st → is_inserting st ≡ true
  command-inserting None c st e = absurd (none e)
    where
      none : (let o : Option Stmt = None in o) ≡ Some st → ⊥
      none q = cc
  command-inserting (Some z) c st e = from-inserting z.0 z.1 (stmt_of z.0 z.1 script.lines) c st (λ s f. stmt-inserting z.0 z.1 script.lines s a f) e

  -- no EXEC is of a command that may fail where it runs
  no-failing : (line : Stmt) (s : Slice) → is_inserting line ≡ true → IsSliceOf line s → may_fail s ≡ true → ⊥
  no-failing (stmt.Insert t tuples) (slice.Insert u rows) i e f = absurd (cc)
  no-failing (stmt.Insert t tuples) (slice.Select q) i e f = absurd e
  no-failing (stmt.Insert t tuples) (slice.Update u x v) i e f = absurd e
  no-failing (stmt.Insert t tuples) (slice.Delete u v) i e f = absurd e
  no-failing (stmt.Insert t tuples) (slice.Lock u m) i e f = absurd e
  no-failing (stmt.Begin l) s i e f = absurd e
  no-failing stmt.Commit s i e f = absurd e
  no-failing stmt.Rollback s i e f = absurd e
  no-failing (stmt.Select r) s i e f = absurd (cc)
  no-failing (stmt.Update t x v) s i e f = absurd (cc)
  no-failing (stmt.Delete t v) s i e f = absurd (cc)
  no-failing (stmt.Lock t m) s i e f = absurd (cc)

  pub no-failing-order : (ms : List Mark) (node : Node) (g : Gxid) (c : Cid) (level : Level) (x : Option Snapshot) (s : Slice) → IsOrder script ms node g c level x s → may_fail s ≡ true → ⊥
  no-failing-order ms node g c level x s o f = no-failing o.line s (command-inserting (began_from [] ms g) c.0 o.line o.of) (order-slice script ms node g c level x s o) f

-- its commands are INSERTs
pub insert-only : (b : BlockState) (line : Stmt) → is_inserting line ≡ true → is_command b line ≡ true → (t : Table) × (tuples : List (List Expr)) × (line ≡ stmt.Insert t tuples)
insert-only b (stmt.Insert t tuples) i e = (t, tuples, refl)
insert-only Outside (stmt.Begin l) i e = absurd (cc)
insert-only (InBlock l n) (stmt.Begin m) i e = absurd (cc)
insert-only Failed (stmt.Begin l) i e = absurd (cc)
insert-only Outside stmt.Commit i e = absurd (cc)
insert-only (InBlock l n) stmt.Commit i e = absurd (cc)
insert-only Failed stmt.Commit i e = absurd (cc)
insert-only Outside stmt.Rollback i e = absurd (cc)
insert-only (InBlock l n) stmt.Rollback i e = absurd (cc)
insert-only Failed stmt.Rollback i e = absurd (cc)
insert-only b (stmt.Select q) i e = absurd (cc)
insert-only b (stmt.Update t x v) i e = absurd (cc)
insert-only b (stmt.Delete t v) i e = absurd (cc)
insert-only b (stmt.Lock t m) i e = absurd (cc)
