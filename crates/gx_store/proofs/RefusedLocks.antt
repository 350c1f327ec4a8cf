-- Why runs with wrong locks on tables are refused.
use Rattle.std.proofs.Common.{◌≡◌, ◌⊎◌, ◌≤◌, ◌<◌, inl, inr, ℕ, Bool, [], ◌∷◌, false, true, Some, refl, sym, subst, ap, ◌∙◌, if◌then◌else◌, arith}
use Rattle.std.specs.List.{list_any}
use Rattle.std.specs.Prelude.{Any, IsTrue, ◌||◌, not}
use Rattle.gx_ids.specs.declared.ids.Gxid.{Gxid}
use Rattle.gx_ids.specs.declared.ids.Node.{Node}
use Rattle.gx_tree.specs.declared.stmt.Level.TheVariants.{ReadCommitted}
use Rattle.gx_tree.specs.declared.stmt.Stmt.TheVariants as stmt
use Rattle.gx_modes.specs.Table.{conflict}
use Rattle.gx_modes.specs.declared.modes.Mode.{Mode}
use Rattle.gx_script.specs.declared.Script.{Script}
use Rattle.gx_waits.specs.Claim.{Meets, same_claim}
use Rattle.gx_waits.specs.declared.claim.Claim.{Claim}
use Rattle.gx_waits.specs.declared.object.Object.TheVariants.{Relation}
use Rattle.gx_waits.proofs.Members.{Has, has_from_any}
use Rattle.gx_store.specs.declared.answer.StmtAnswer.TheVariants as answer
use Rattle.gx_store.specs.Answers.{IsAnswer, IsDone}
use Rattle.gx_store.specs.Commands.{state_at}
use Rattle.gx_store.specs.Legal.{LegalAnswer}
use Rattle.gx_store.specs.Lines.{InBlock, next_stmt}
use Rattle.gx_store.specs.Locks.{AreLockedSteps}
use Rattle.gx_store.specs.Points.{Point, before}
use Rattle.gx_store.specs.RefusedHistories.{IsNoHistory}
use Rattle.gx_store.specs.RefusedParts.{anna, first_txn, other_segment, second_txn, third_txn}
use Rattle.gx_store.specs.RefusedWaits.{block_of_lock, first_table, granted_over, granted_past, locked_at_one, released_unended, waits_behind_its_waiter}
use Rattle.gx_store.specs.Waits.{holds_at}
use Rattle.gx_waits.specs.Claims.{claim}
use Rattle.gx_store.proofs.RefusedParts.{clash}

-- A LOCK OVER ANOTHER
second-meets : (held wanted : Mode) → IsTrue (conflict wanted held) → Meets (claim second_txn (Relation first_table) wanted) (claim first_txn (Relation first_table) held)
second-meets held wanted conflicting = record { other = λ e. differ second_txn.0 refl (ap (λ (g : Gxid). g.0) e); same_object = refl; conflicting = conflicting }
  where
    differ : (n : ℕ) → n ≡ 2 → n ≡ 1 → ⊥
    differ n d e = omega arith

pub not-over : (script : Script) (held wanted : Mode) → IsTrue (conflict wanted held) → AreLockedSteps script [] (granted_over held wanted) → ⊥
not-over script held wanted conflicting h = h.2.0.0.here 0 (claim first_txn (Relation first_table) held) one (second-meets held wanted conflicting)
  where
    one : 0 < 1
    one = omega arith

-- A LOCK PAST THE QUEUE
third-meets : (awaited wanted : Mode) → IsTrue (conflict wanted awaited) → Meets (claim third_txn (Relation first_table) wanted) (claim second_txn (Relation first_table) awaited)
third-meets awaited wanted conflicting = record { other = λ e. differ third_txn.0 refl (ap (λ (g : Gxid). g.0) e); same_object = refl; conflicting = conflicting }
  where
    differ : (n : ℕ) → n ≡ 3 → n ≡ 2 → ⊥
    differ n d e = omega arith

pub not-past : (script : Script) (held awaited wanted : Mode) → IsTrue (conflict wanted awaited) → AreLockedSteps script [] (granted_past held awaited wanted) → ⊥
not-past script held awaited wanted conflicting h = h.2.2.0.0.here 1 (claim second_txn (Relation first_table) awaited) two (third-meets awaited wanted conflicting)
  where
    two : 1 < 2
    two = omega arith

-- the first meets nobody where its own hold makes the second wait
pub not-behind : (script : Script) (held awaited wanted : Mode) → IsTrue (conflict awaited held) → AreLockedSteps script [] (waits_behind_its_waiter held awaited wanted) → ⊥
not-behind script held awaited wanted conflicting h = by_test (conflict awaited held) conflicting h.2.2.0.0.here
  where
    asked : Claim
    asked = claim first_txn (Relation first_table) wanted

    by_test : (b : Bool) → b ≡ true → Any (Meets asked) (claim first_txn (Relation first_table) held ∷ (if not (b || false) then claim second_txn (Relation first_table) awaited ∷ [] else [])) → ⊥
    by_test true e any = itself (has_from_any (Meets asked) (claim first_txn (Relation first_table) held ∷ []) any)
      where
        itself : (x : Claim) × Has x (claim first_txn (Relation first_table) held ∷ []) × Meets asked x → ⊥
        itself (x, inl same, meets) = meets.other (ap (λ (c : Claim). c.gxid) same)
        itself (x, inr none, meets) = none
    by_test false e any = cc

-- A LOCK GIVEN BACK
pub not-before : (script : Script) (node : Node) (mode : Mode) → AreLockedSteps script [] (released_unended node mode) → ⊥
not-before script node mode h = neither h.2.0.0.here
  where
    neither : ⊥ ⊎ (false ≡ true) → ⊥
    neither (inl e) = e
    neither (inr e) = cc

-- LOCK TABLE
some-same : {A : Type 0} (a b : A) → Some a ≡ Some b → a ≡ b
some-same a b e = cc

-- a segment that holds nothing doesn't hold the table
no-lock : {script : Script} {point : Point} (mode : Mode) → LegalAnswer script point anna 2 answer.Locked → next_stmt anna script (before point) ≡ Some (stmt.Lock first_table mode) → state_at script anna point ≡ InBlock ReadCommitted 0 → script.segments ≡ 2 → holds_at (before point) other_segment ≡ [] → ⊥
no-lock {script = script} {point = point} mode a line inside two nothing =
    by_done (subst (λ b. IsAnswer script point anna b (stmt.Lock first_table mode) answer.Locked) inside (subst (λ l. IsAnswer script point anna (state_at script anna point) l answer.Locked) (some-same _ _ (sym a.runs.line ∙ line)) a.is))
  where
    within : (n : ℕ) → n ≡ 2 → 2 ≤ n
    within n e = omega arith

    by_done : IsDone script point anna (InBlock ReadCommitted 0) (stmt.Lock first_table mode) answer.Locked → ⊥
    by_done d = clash _ (d.told other_segment (within script.segments two)) (ap (λ holds. list_any (same_claim (claim d.g (Relation first_table) mode)) holds) nothing)

pub not-early : (script : Script) (mode : Mode) → IsNoHistory (block_of_lock script mode) (locked_at_one mode)
not-early script mode h = no-lock mode h.1.1.1.1.1.0.marks.0 refl refl refl refl
