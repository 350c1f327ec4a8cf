-- Why the small runs in which something comes too late are no histories.
use Rattle.std.proofs.Common.{◌≡◌, ℕ, ◌==◌, Bool, true, false, if◌then◌else◌, ◌&&◌, List, [], ◌∷◌, Option, Some, None, Result, Ok, Err, inl, inr, refl, sym, subst, ap, ◌∙◌, arith}
use Rattle.std.proofs.lemmas.List.Elements.{All-head, All-tail}
use Rattle.gx_ids.specs.declared.ids.Gxid.{Gxid}
use Rattle.gx_ids.specs.declared.ids.Node.{Node}
use Rattle.gx_ids.specs.declared.ids.SessionId.{SessionId}
use Rattle.gx_ids.specs.declared.ids.Table.{Table}
use Rattle.gx_tree.specs.declared.cond.Cond.{Cond}
use Rattle.gx_tree.specs.declared.expr.Expr.{Expr}
use Rattle.gx_tree.specs.declared.slice.Slice.{Slice}
use Rattle.gx_tree.specs.declared.stmt.Assign.{Assign}
use Rattle.gx_tree.specs.declared.stmt.Level.TheVariants.{ReadCommitted}
use Rattle.gx_tree.specs.declared.stmt.Stmt.{Stmt}
use Rattle.gx_tree.specs.declared.stmt.Stmt.TheVariants as stmt
use Rattle.gx_tree.specs.declared.value.Value.{Value}
use Rattle.gx_dsnap.specs.declared.snapshot.Snapshot.{Snapshot}
use Rattle.gx_meaning.specs.Constants.{values_of}
use Rattle.gx_meaning.specs.declared.fault.ArithFault.{ArithFault}
use Rattle.gx_script.specs.declared.Script.{Script}
use Rattle.gx_store.specs.Answers.{HasValues}
use Rattle.gx_waits.specs.declared.graph.LocalGraph.{LocalGraph}
use Rattle.gx_store.specs.Faults.{IsFaultOf, LegalFault, may_fault_late}
use Rattle.gx_store.specs.Marks.{is_aborted, is_ended, is_sent, node_of, row_table}
use Rattle.gx_store.specs.Outgoing.{AreSentWhole}
use Rattle.gx_store.specs.Points.{Point, before}
use Rattle.gx_store.specs.RefusedHistories.{IsNoHistory, one_insert}
use Rattle.gx_store.specs.RefusedLate.{dealt_out, faulted_late, faulted_when_sent, goes_out, insert_and_update, inserted_late, left_open, only_begin, other_table, the_table, two_tuples, updated_elsewhere}
use Rattle.gx_store.specs.RefusedParts.{anna, first_cid, first_txn, line_of, other_segment, row_of, second_txn, the_segment}
use Rattle.gx_store.specs.Writes.{IsLateWriteOf, LegalWrite}
use Rattle.gx_store.proofs.RefusedParts.{clash}

some-same : {A : Type 0} (a b : A) → Some a ≡ Some b → a ≡ b
some-same a b e = cc

differ : false ≡ true → ⊥
differ e = cc

-- the only line of a script
its-line : (session : SessionId) (number : ℕ) (line other : Stmt) → Rattle.gx_store.specs.Lines.stmt_of session number (line_of anna 1 line ∷ []) ≡ Some other → line ≡ other
its-line session number line other e = by_test ((0 == session.0) && (1 == number)) e
  where
    by_test : (b : Bool) → (if b then Some line else None) ≡ Some other → line ≡ other
    by_test true f = some-same line other f
    by_test false f = absurd (none f)
      where
        none : None ≡ Some other → ⊥
        none f = cc

-- CONSTANTS
module _ (script : Script) (table : Table) (tuple : List Expr) where
  abbrev the_script : Script
  the_script = one_insert script table tuple

  insert-sent : {point : Point} → LegalFault the_script point first_txn first_cid (row_of first_txn) None → is_aborted (before point) first_txn ≡ false → is_sent (before point) first_txn first_cid ≡ true → ⊥
  insert-sent {point = point} (inl live) alive sent =
      by_insert (subst (λ l. IsFaultOf (before point) live.level first_txn first_cid l (row_of first_txn) None live.fault) (sym (its-line live.session _ (stmt.Insert table (tuple ∷ [])) live.stmt live.runs.runs.line.line)) live.faults)
    where
      by_insert : IsFaultOf (before point) live.level first_txn first_cid (stmt.Insert table (tuple ∷ [])) (row_of first_txn) None live.fault → ⊥
      by_insert f = clash _ sent f.unsent
  insert-sent {point = point} (inr late) alive sent = clash _ late.late.aborted alive

  insert-late : {point : Point} → LegalFault the_script point first_txn first_cid (row_of first_txn) None → is_ended (before point) first_txn ≡ true → ⊥
  insert-late {point = point} (inl live) ended = clash _ ended live.runs.running
  insert-late {point = point} (inr late) ended = differ (ap may_fault_late (its-line late.late.session _ (stmt.Insert table (tuple ∷ [])) late.stmt late.late.ran.runs.line.line) ∙ late.kind)

  pub no-history-sent-first : (snapshot : Snapshot) (slice : Slice) → IsNoHistory (one_insert script table tuple) (faulted_when_sent snapshot slice)
  no-history-sent-first snapshot slice h = insert-sent h.1.0.marks.0 refl refl

  pub no-history-faulted-late : (graph : LocalGraph) (snapshot : Snapshot) (slice : Slice) → IsNoHistory (one_insert script table tuple) (faulted_late graph snapshot slice)
  no-history-faulted-late graph snapshot slice h = insert-late h.1.1.0.marks.0 refl

-- a tuple that faults has no values
pub not-whole : (script : Script) (table : Table) (one other : List Expr) (fault : ArithFault) (snapshot : Snapshot) (slice : Slice) → values_of other ≡ Err fault
    → AreSentWhole (two_tuples script table one other) [] (goes_out snapshot slice ∷ []) → ⊥
not-whole script table one other fault snapshot slice faults h =
    let all = h.0.1.1.0 anna table (one ∷ other ∷ []) ReadCommitted (record { line = record { started = refl; line = refl }; command = refl; transaction = refl; number = refl; isolation = refl }) in
    apart (values_of other) faults (All-head HasValues other [] (All-tail HasValues one (other ∷ []) all))
  where
    apart : (o : Result (List Value) ArithFault) → o ≡ Err fault → (values : List Value) × (o ≡ Ok values) → ⊥
    apart o e v = clash-of v.0 (sym e ∙ v.1)
      where
        clash-of : (values : List Value) → Err fault ≡ Ok values → ⊥
        clash-of values e = cc

-- WRITES
no-node : (o : Option Node) (n : Node) → o ≡ None → o ≡ Some n → ⊥
no-node o n e f = cc

-- a late write of a row that wasn't written is its INSERT's
module _ {script : Script} {point : Point} (table : Table) (node : Node) (image : Option (List Value)) where
  late-insert : (script.segments ≡ 2) → (script.tables ≡ []) → LegalWrite script point first_txn first_cid node table (row_of first_txn) image → is_ended (before point) first_txn ≡ true → node_of (before point) (row_of first_txn) ≡ None
      → (node.0 ≡ 1) × ((values : List Value) × (image ≡ Some values))
  late-insert two dealt (inl live) ended nowhere = absurd (clash _ ended live.runs.running)
  late-insert two dealt (inr late) ended nowhere = by_stmt late.stmt late.writes
    where
      by_stmt : (line : Stmt) → IsLateWriteOf script (before point) first_txn first_cid line node table (row_of first_txn) image → (node.0 ≡ 1) × ((values : List Value) × (image ≡ Some values))
      by_stmt (stmt.Insert t tuples) w = (
        w.1.place
            ∙ ap (λ n. Rattle.gx_meaning.specs.Place.row_place n (Rattle.gx_store.specs.Writes.dist_of script.tables t.0) w.1.values (row_of first_txn)) two
            ∙ ap (λ ts. Rattle.gx_meaning.specs.Place.row_place 2 (Rattle.gx_store.specs.Writes.dist_of ts t.0) w.1.values (row_of first_txn)) dealt,
        (w.1.values, w.1.written),
      )
      by_stmt (stmt.Update t assigns cond) w = absurd (no-node _ node nowhere w.1)
      by_stmt (stmt.Delete t cond) w = absurd (no-node _ node nowhere w.1)
      by_stmt (stmt.Select q) w = absurd w
      by_stmt (stmt.Begin level) w = absurd w
      by_stmt stmt.Commit w = absurd w
      by_stmt stmt.Rollback w = absurd w
      by_stmt (stmt.Lock t mode) w = absurd w

pub no-history-misplaced : (script : Script) (table : Table) (tuple : List Expr) (graph : LocalGraph) (snapshot : Snapshot) (slice : Slice) (row : List Value) → IsNoHistory (dealt_out script table tuple) (inserted_late table graph snapshot slice other_segment (Some row))
no-history-misplaced script table tuple graph snapshot slice row h = one-two other_segment.0 refl (late-insert table other_segment (Some row) refl refl h.1.1.0.marks.0 refl refl).0
  where
    one-two : (n : ℕ) → n ≡ 2 → n ≡ 1 → ⊥
    one-two n a b = omega arith

pub no-history-imageless : (script : Script) (table : Table) (tuple : List Expr) (graph : LocalGraph) (snapshot : Snapshot) (slice : Slice) → IsNoHistory (dealt_out script table tuple) (inserted_late table graph snapshot slice the_segment None)
no-history-imageless script table tuple graph snapshot slice h = none _ (late-insert table the_segment None refl refl h.1.1.0.marks.0 refl refl).1.1
  where
    none : (values : List Value) → None ≡ Some values → ⊥
    none values e = cc

-- a late write of an own table's row
late-table : {script : Script} {point : Point} (row : List Value) → LegalWrite script point second_txn first_cid the_segment other_table (row_of first_txn) (Some row) → is_ended (before point) second_txn ≡ true → row_table (before point) (row_of first_txn) ≡ Some the_table → ⊥
late-table {script = script} {point = point} row (inl live) ended there = clash _ ended live.runs.running
late-table {script = script} {point = point} row (inr late) ended there = by_stmt late.stmt late.writes
  where
    one-two : (n : ℕ) → n ≡ 1 → n ≡ 2 → ⊥
    one-two n a b = omega arith

    zero-one : (n : ℕ) → n ≡ 0 → n ≡ 1 → ⊥
    zero-one n a b = omega arith

    apart : (t : Table) → other_table ≡ t → row_table (before point) (row_of first_txn) ≡ Some t → ⊥
    apart t e f = zero-one the_table.0 refl (ap (λ (u : Table). u.0) (some-same the_table t (sym there ∙ f) ∙ sym e))

    by_stmt : (line : Stmt) → IsLateWriteOf script (before point) second_txn first_cid line the_segment other_table (row_of first_txn) (Some row) → ⊥
    by_stmt (stmt.Insert t tuples) w = one-two first_txn.0 refl (ap (λ (g : Gxid). g.0) w.1.own.0)
    by_stmt (stmt.Update t assigns cond) w = apart t w.0 w.2
    by_stmt (stmt.Delete t cond) w = apart t w.0 w.2
    by_stmt (stmt.Select q) w = w
    by_stmt (stmt.Begin level) w = w
    by_stmt stmt.Commit w = w
    by_stmt stmt.Rollback w = w
    by_stmt (stmt.Lock t mode) w = w

pub no-history-other-table : (script : Script) (tuple : List Expr) (assigns : List Assign) (cond : Option Cond) (graph : LocalGraph) (s t : Snapshot) (old new : List Value) → IsNoHistory (insert_and_update script tuple assigns cond) (updated_elsewhere graph s t old new)
no-history-other-table script tuple assigns cond graph s t old new h = late-table new h.1.1.1.1.1.0.marks.0 refl refl

-- THE END OF A SESSION
pub no-history-open : (script : Script) → IsNoHistory (only_begin script) left_open
no-history-open script h = differ (h.1.0.event.rolled_back first_txn refl)
