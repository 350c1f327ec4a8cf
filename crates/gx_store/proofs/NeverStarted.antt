-- A write of a line that was never started is refused.
use Rattle.std.proofs.Common.{◌≡◌, ℕ, ◌+◌, ◌≤◌, ◌==◌, Bool, true, false, if◌then◌else◌, ◌&&◌, List, [], ◌∷◌, Option, Some, None, inl, inr, sym, subst, refl, arith}
use Rattle.std.proofs.lemmas.Bool.Decides.{nat_tests}
use Rattle.std.specs.Prelude.{take}
use Rattle.gx_ids.specs.declared.ids.SessionId.{SessionId}
use Rattle.gx_ids.specs.declared.ids.Table.{Table}
use Rattle.gx_tree.specs.declared.expr.Expr.{Expr}
use Rattle.gx_tree.specs.declared.query.Query.{Query}
use Rattle.gx_tree.specs.declared.stmt.Level.TheVariants.{ReadCommitted}
use Rattle.gx_tree.specs.declared.stmt.Stmt.{Stmt}
use Rattle.gx_tree.specs.declared.stmt.Stmt.TheVariants as stmt
use Rattle.gx_tree.specs.declared.value.Value.{Value}
use Rattle.gx_script.specs.declared.Script.{Script}
use Rattle.gx_store.specs.declared.event.Event.TheVariants as event
use Rattle.gx_store.specs.declared.mark.Mark.{Mark}
use Rattle.gx_store.specs.Lines.{stmt_of}
use Rattle.gx_store.specs.Marks.{answer_count}
use Rattle.gx_store.specs.Points.{Point, before, starts_at}
use Rattle.gx_store.specs.RefusedHistories.{IsNoHistory, block_of_insert, never_started, second_cid}
use Rattle.gx_store.specs.RefusedParts.{first_txn, the_segment}
use Rattle.gx_store.specs.Refusals.{the_coordinator}
use Rattle.gx_store.specs.Writes.{IsLateWriteOf, LegalWrite}
use Rattle.gx_store.proofs.Points.{starts_at-earlier}

none : (s : Stmt) → (let o : Option Stmt = None in o) ≡ Some s → ⊥
none s e = cc

some-same : (a b : Stmt) → Some a ≡ Some b → a ≡ b
some-same a b q = cc

module _ (script : Script) (query : Query) (table : Table) (tuple : List Expr) (row : List Value) where
  abbrev Writes : List Mark → Stmt → Type 0
  Writes marks s = IsLateWriteOf (block_of_insert script query table tuple) marks first_txn second_cid s the_segment table (record { gxid = first_txn; cid = second_cid; ordinal = 1 }) (Some row)

  -- the only line that writes is the session's third
  third : (marks : List Mark) (session : SessionId) (n : ℕ) (s : Stmt) → stmt_of session n (block_of_insert script query table tuple).lines ≡ Some s → Writes marks s → n ≡ 3
  third marks session n s e w = by_tests (0 == session.0) (1 == n) (2 == n) (3 == n) refl e
    where
      is-three : (3 == n) ≡ true → n ≡ 3
      is-three q = grind (arith, nat_tests)

      by_tests : (own one two three : Bool) → (3 == n) ≡ three → (if own && one then Some (stmt.Begin ReadCommitted) else (if own && two then Some (stmt.Select query) else (if own && three then Some (stmt.Insert table (tuple ∷ [])) else None))) ≡ Some s → n ≡ 3
      by_tests true true two three q f = absurd (subst (Writes marks) (sym (some-same _ s f)) w)
      by_tests true false true three q f = absurd (subst (Writes marks) (sym (some-same _ s f)) w)
      by_tests true false false true q f = is-three q
      by_tests true false false false q f = absurd (none s f)
      by_tests false one two three q f = absurd (none s f)

  abbrev the_end : Point
  the_end = record { steps = take 2 (never_started table row); event = event.Receive the_coordinator the_segment 1; earlier = []; later = [] }

  -- the session has started two
  two : (session : SessionId) → starts_at session the_end ≤ 2
  two session = by_test (0 == session.0)
    where
      by_test : (b : Bool) → (if b then 1 else 0) + ((if b then 1 else 0) + 0) + 0 ≤ 2
      by_test true = omega arith
      by_test false = omega arith

  pub no-history-unstarted : IsNoHistory (block_of_insert script query table tuple) (never_started table row)
  no-history-unstarted h = by_write h.1.1.0.marks.0
    where
      le-trans : {a b d : ℕ} → a ≤ b → b ≤ d → a ≤ d
      le-trans x y = omega arith

      differ : true ≡ false → ⊥
      differ e = cc

      beyond : (a b : ℕ) → a ≡ b + 1 → b + 1 ≡ 3 → a ≤ 2 → ⊥
      beyond a b e f l = omega arith

      by_write : LegalWrite (block_of_insert script query table tuple) the_end first_txn second_cid the_segment table (record { gxid = first_txn; cid = second_cid; ordinal = 1 }) (Some row) → ⊥
      by_write (inl live) = differ live.runs.running
      by_write (inr late) =
          beyond (starts_at late.late.session late.late.early) (answer_count late.late.session (before late.late.early)) late.late.ran.runs.line.started
          (third (before the_end) late.late.session (answer_count late.late.session (before late.late.early) + 1) late.stmt late.late.ran.runs.line.line late.writes)
          (le-trans (starts_at-earlier late.late.session late.late.early the_end late.late.earlier) (two late.late.session))
