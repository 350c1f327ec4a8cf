-- Why the small runs don't follow the commit protocol.
use Rattle.std.proofs.Common.{◌≡◌, ◌⊎◌, inl, inr, ℕ, List, true, false, refl, Some, arith}
use Rattle.gx_ids.specs.declared.ids.Table.{Table}
use Rattle.gx_tree.specs.declared.expr.Expr.{Expr}
use Rattle.gx_tree.specs.declared.query.Query.{Query}
use Rattle.gx_tree.specs.declared.slice.Slice.TheVariants as slice
use Rattle.gx_tree.specs.declared.stmt.Level.TheVariants.{ReadCommitted}
use Rattle.gx_tree.specs.declared.stmt.Stmt.TheVariants as stmt
use Rattle.gx_tree.specs.declared.value.Value.{Value}
use Rattle.gx_dsnap.specs.declared.snapshot.Snapshot.{Snapshot}
use Rattle.gx_script.specs.declared.Script.{Script}
use Rattle.gx_store.specs.Points.{Point, before}
use Rattle.gx_store.specs.Protocol.{CommitsAlone, CommitsAsPromised, CommitsThere, decided_count, is_writer}
use Rattle.gx_store.specs.RefusedCommits.{BreaksProtocol, answered_at_once, committed_early, decided_late, decided_of_nobody, decided_twice, one_select, promised_unwritten, two_writers, written_late}
use Rattle.gx_store.specs.RefusedParts.{anna, empty_block, first_cid, first_txn, other_segment, the_segment}
use Rattle.gx_store.proofs.RefusedParts.{clash, none-returned}

pub protocol-at-once : (script : Script) (query : Query) (snapshot : Snapshot) → BreaksProtocol (one_select script query) (answered_at_once query snapshot)
protocol-at-once script query snapshot h =
    let back = h.0.1.1.1.1.0 (stmt.Select query) ReadCommitted first_txn first_cid the_segment (record { line = record { started = refl; line = refl }; command = refl; transaction = refl; number = refl; isolation = refl })
    (record { number = 1; level = ReadCommitted; snapshot = Some snapshot; horizon = first_txn; slice = slice.Select query; sent = inr (2, omega arith, refl) }) in
    none-returned anna first_txn first_cid the_segment back

one-zero : {n : ℕ} → n ≡ 0 → n ≡ 1 → ⊥
one-zero e f = omega arith

pub protocol-nobody : (script : Script) → BreaksProtocol (empty_block script) decided_of_nobody
protocol-nobody script h = h.1.0.0.0.several

pub protocol-unwritten : (script : Script) → BreaksProtocol (empty_block script) promised_unwritten
protocol-unwritten script h = clash false h.1.1.0.0.writer refl

pub protocol-twice : (script : Script) (table : Table) (one other : List Expr) (s : Snapshot) (row more : List Value) → BreaksProtocol (two_writers script table one other) (decided_twice table s row more)
protocol-twice script table one other s row more h = one-zero h.1.1.1.1.1.1.1.1.1.1.0.1.0.0.first refl

pub protocol-late : (script : Script) (table : Table) (one other : List Expr) (s : Snapshot) (row more : List Value) → BreaksProtocol (two_writers script table one other) (decided_late table s row more)
protocol-late script table one other s row more h = clash true refl h.1.1.1.1.1.1.1.1.1.1.1.0.0.0.running

no-early : {point : Point} → CommitsThere point the_segment first_txn → is_writer (before point) first_txn other_segment ≡ true → decided_count (before point) first_txn ≡ 0 → ⊥
no-early {point = point} c writes undecided = by_how c.by
  where
    by_how : CommitsAlone point the_segment first_txn ⊎ CommitsAsPromised point the_segment first_txn → ⊥
    by_how (inl alone) = clash (is_writer (before point) first_txn other_segment) writes (alone.only other_segment)
    by_how (inr promised) = one-zero undecided promised.decided

pub protocol-early : (script : Script) (table : Table) (one other : List Expr) (s : Snapshot) (row more : List Value) → BreaksProtocol (two_writers script table one other) (committed_early table s row more)
protocol-early script table one other s row more h = no-early h.1.1.1.1.1.1.1.1.1.1.1.0.0 refl refl

pub protocol-written : (script : Script) (table : Table) (one other : List Expr) (s : Snapshot) (row more late : List Value) → BreaksProtocol (two_writers script table one other) (written_late table s row more late)
protocol-written script table one other s row more late h = one-zero h.1.1.1.1.1.1.1.1.1.1.1.0.0.unpromised refl
