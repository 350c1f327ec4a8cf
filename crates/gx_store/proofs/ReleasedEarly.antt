-- A lock that is given back between an abort and its answer is refused.
use Rattle.std.proofs.Common.{◌≡◌, inl, true, false, [], refl}
use Rattle.gx_tree.specs.declared.query.Query.{Query}
use Rattle.gx_tree.specs.declared.stmt.Level.TheVariants.{ReadCommitted}
use Rattle.gx_tree.specs.declared.stmt.Stmt.TheVariants as stmt
use Rattle.gx_dsnap.specs.declared.snapshot.Snapshot.{Snapshot}
use Rattle.gx_script.specs.declared.Script.{Script}
use Rattle.gx_store.specs.Locks.{AreLockedSteps}
use Rattle.gx_store.specs.RefusedParts.{anna, first_cid, first_txn}
use Rattle.gx_store.specs.RefusedWaits.{on_first, one_query, released_early}

pub no-locks : (script : Script) (query : Query) (snapshot : Snapshot) → AreLockedSteps (one_query script query) [] (released_early snapshot) → ⊥
no-locks script query snapshot h =
    differ (h.2.0.1.1.0.reading anna (stmt.Select (on_first query)) ReadCommitted first_txn first_cid
    (record { line = record { started = refl; line = refl }; command = refl; transaction = refl; number = refl; isolation = refl }) (inl refl))
  where
    differ : false ≡ true → ⊥
    differ e = cc
