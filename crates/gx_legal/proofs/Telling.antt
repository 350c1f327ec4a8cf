-- The tests of what a command's answer says decide the definition.
use Rattle.std.proofs.Common.{◌≡◌, true, List, Option}
use Rattle.gx_ids.specs.declared.ids.Gxid.{Gxid}
use Rattle.gx_ids.specs.declared.ids.Cid.{Cid}
use Rattle.gx_ids.specs.declared.ids.Table.{Table}
use Rattle.gx_modes.specs.declared.modes.Mode.{Mode}
use Rattle.gx_script.specs.declared.Script.{Script}
use Rattle.gx_tree.specs.declared.cond.Cond.{Cond}
use Rattle.gx_tree.specs.declared.expr.Expr.{Expr}
use Rattle.gx_tree.specs.declared.query.Query.{Query}
use Rattle.gx_tree.specs.declared.stmt.Assign.{Assign}
use Rattle.gx_tree.specs.declared.stmt.Level.{Level}
use Rattle.gx_tree.specs.declared.stmt.Stmt.{Stmt}
use Rattle.gx_tree.specs.declared.stmt.Stmt.TheVariants as stmt
use Rattle.gx_store.specs.declared.answer.StmtAnswer.{StmtAnswer}
use Rattle.gx_store.specs.declared.answer.StmtAnswer.TheVariants as answer
use Rattle.gx_store.specs.declared.mark.Mark.{Mark}
use Rattle.gx_store.specs.Answers.{Tells}
use Rattle.gx_legal.specs.Told.{has_told, tells_deleted, tells_inserted, tells_locked, tells_rows, tells_updated}
use Rattle.gx_legal.proofs.Answering.{is-shown, shown-is}
use Rattle.gx_legal.proofs.Decided.{no_more}
use Rattle.gx_legal.proofs.RowsTreated.{changed-is, is-changed}
use Rattle.gx_legal.proofs.Holding.{is-locked, locked-is}
use Rattle.gx_legal.proofs.Inserting.{inserted-is, is-inserted}

module _ (script : Script) (marks : List Mark) (level : Level) (g : Gxid) (c : Cid) where
  -- SELECT
  rows-is : (query : Query) (a : StmtAnswer) → tells_rows marks level g c query a ≡ true → Tells script marks level g c (stmt.Select query) a
  rows-is query answer.Begin e = no_more _ e
  rows-is query answer.Commit e = no_more _ e
  rows-is query answer.Rollback e = no_more _ e
  rows-is query answer.Locked e = no_more _ e
  rows-is query (answer.Inserted n) e = no_more _ e
  rows-is query (answer.Updated n) e = no_more _ e
  rows-is query (answer.Deleted n) e = no_more _ e
  rows-is query (answer.Rows rows) e = shown-is marks level g c query rows e
  rows-is query (answer.Refused reason) e = no_more _ e

  is-rows : (query : Query) (a : StmtAnswer) → Tells script marks level g c (stmt.Select query) a → tells_rows marks level g c query a ≡ true
  is-rows query answer.Begin t = absurd t
  is-rows query answer.Commit t = absurd t
  is-rows query answer.Rollback t = absurd t
  is-rows query answer.Locked t = absurd t
  is-rows query (answer.Inserted n) t = absurd t
  is-rows query (answer.Updated n) t = absurd t
  is-rows query (answer.Deleted n) t = absurd t
  is-rows query (answer.Rows rows) t = is-shown marks level g c query rows t
  is-rows query (answer.Refused reason) t = absurd t

  -- INSERT
  inserts-is : (table : Table) (tuples : List (List Expr)) (a : StmtAnswer) → tells_inserted marks level g c tuples a ≡ true → Tells script marks level g c (stmt.Insert table tuples) a
  inserts-is table tuples answer.Begin e = no_more _ e
  inserts-is table tuples answer.Commit e = no_more _ e
  inserts-is table tuples answer.Rollback e = no_more _ e
  inserts-is table tuples answer.Locked e = no_more _ e
  inserts-is table tuples (answer.Inserted n) e = inserted-is marks level g c tuples n e
  inserts-is table tuples (answer.Updated n) e = no_more _ e
  inserts-is table tuples (answer.Deleted n) e = no_more _ e
  inserts-is table tuples (answer.Rows rows) e = no_more _ e
  inserts-is table tuples (answer.Refused reason) e = no_more _ e

  is-inserts : (table : Table) (tuples : List (List Expr)) (a : StmtAnswer) → Tells script marks level g c (stmt.Insert table tuples) a → tells_inserted marks level g c tuples a ≡ true
  is-inserts table tuples answer.Begin t = absurd t
  is-inserts table tuples answer.Commit t = absurd t
  is-inserts table tuples answer.Rollback t = absurd t
  is-inserts table tuples answer.Locked t = absurd t
  is-inserts table tuples (answer.Inserted n) t = is-inserted marks level g c tuples n t
  is-inserts table tuples (answer.Updated n) t = absurd t
  is-inserts table tuples (answer.Deleted n) t = absurd t
  is-inserts table tuples (answer.Rows rows) t = absurd t
  is-inserts table tuples (answer.Refused reason) t = absurd t

  -- UPDATE
  updated-is : (table : Table) (assigns : List Assign) (k : Option Cond) (a : StmtAnswer) → tells_updated marks level g c table k a ≡ true → Tells script marks level g c (stmt.Update table assigns k) a
  updated-is table assigns k answer.Begin e = no_more _ e
  updated-is table assigns k answer.Commit e = no_more _ e
  updated-is table assigns k answer.Rollback e = no_more _ e
  updated-is table assigns k answer.Locked e = no_more _ e
  updated-is table assigns k (answer.Inserted n) e = no_more _ e
  updated-is table assigns k (answer.Updated n) e = changed-is marks level g c table k n e
  updated-is table assigns k (answer.Deleted n) e = no_more _ e
  updated-is table assigns k (answer.Rows rows) e = no_more _ e
  updated-is table assigns k (answer.Refused reason) e = no_more _ e

  is-updated : (table : Table) (assigns : List Assign) (k : Option Cond) (a : StmtAnswer) → Tells script marks level g c (stmt.Update table assigns k) a → tells_updated marks level g c table k a ≡ true
  is-updated table assigns k answer.Begin t = absurd t
  is-updated table assigns k answer.Commit t = absurd t
  is-updated table assigns k answer.Rollback t = absurd t
  is-updated table assigns k answer.Locked t = absurd t
  is-updated table assigns k (answer.Inserted n) t = absurd t
  is-updated table assigns k (answer.Updated n) t = is-changed marks level g c table k n t
  is-updated table assigns k (answer.Deleted n) t = absurd t
  is-updated table assigns k (answer.Rows rows) t = absurd t
  is-updated table assigns k (answer.Refused reason) t = absurd t

  -- DELETE
  deleted-is : (table : Table) (k : Option Cond) (a : StmtAnswer) → tells_deleted marks level g c table k a ≡ true → Tells script marks level g c (stmt.Delete table k) a
  deleted-is table k answer.Begin e = no_more _ e
  deleted-is table k answer.Commit e = no_more _ e
  deleted-is table k answer.Rollback e = no_more _ e
  deleted-is table k answer.Locked e = no_more _ e
  deleted-is table k (answer.Inserted n) e = no_more _ e
  deleted-is table k (answer.Updated n) e = no_more _ e
  deleted-is table k (answer.Deleted n) e = changed-is marks level g c table k n e
  deleted-is table k (answer.Rows rows) e = no_more _ e
  deleted-is table k (answer.Refused reason) e = no_more _ e

  is-deleted : (table : Table) (k : Option Cond) (a : StmtAnswer) → Tells script marks level g c (stmt.Delete table k) a → tells_deleted marks level g c table k a ≡ true
  is-deleted table k answer.Begin t = absurd t
  is-deleted table k answer.Commit t = absurd t
  is-deleted table k answer.Rollback t = absurd t
  is-deleted table k answer.Locked t = absurd t
  is-deleted table k (answer.Inserted n) t = absurd t
  is-deleted table k (answer.Updated n) t = absurd t
  is-deleted table k (answer.Deleted n) t = is-changed marks level g c table k n t
  is-deleted table k (answer.Rows rows) t = absurd t
  is-deleted table k (answer.Refused reason) t = absurd t

  -- LOCK
  lock-is : (table : Table) (mode : Mode) (a : StmtAnswer) → tells_locked marks script.segments g table mode a ≡ true → Tells script marks level g c (stmt.Lock table mode) a
  lock-is table mode answer.Begin e = no_more _ e
  lock-is table mode answer.Commit e = no_more _ e
  lock-is table mode answer.Rollback e = no_more _ e
  lock-is table mode answer.Locked e = locked-is script marks g table mode e
  lock-is table mode (answer.Inserted n) e = no_more _ e
  lock-is table mode (answer.Updated n) e = no_more _ e
  lock-is table mode (answer.Deleted n) e = no_more _ e
  lock-is table mode (answer.Rows rows) e = no_more _ e
  lock-is table mode (answer.Refused reason) e = no_more _ e

  is-lock : (table : Table) (mode : Mode) (a : StmtAnswer) → Tells script marks level g c (stmt.Lock table mode) a → tells_locked marks script.segments g table mode a ≡ true
  is-lock table mode answer.Begin t = absurd t
  is-lock table mode answer.Commit t = absurd t
  is-lock table mode answer.Rollback t = absurd t
  is-lock table mode answer.Locked t = is-locked script marks g table mode t
  is-lock table mode (answer.Inserted n) t = absurd t
  is-lock table mode (answer.Updated n) t = absurd t
  is-lock table mode (answer.Deleted n) t = absurd t
  is-lock table mode (answer.Rows rows) t = absurd t
  is-lock table mode (answer.Refused reason) t = absurd t

  -- EACH STATEMENT
  pub told-is : (s : Stmt) (a : StmtAnswer) → has_told script marks level g c s a ≡ true → Tells script marks level g c s a
  told-is (stmt.Select query) a e = rows-is query a e
  told-is (stmt.Insert table tuples) a e = inserts-is table tuples a e
  told-is (stmt.Update table assigns k) a e = updated-is table assigns k a e
  told-is (stmt.Delete table k) a e = deleted-is table k a e
  told-is (stmt.Lock table mode) a e = lock-is table mode a e
  told-is (stmt.Begin other) a e = no_more _ e
  told-is stmt.Commit a e = no_more _ e
  told-is stmt.Rollback a e = no_more _ e

  pub is-told : (s : Stmt) (a : StmtAnswer) → Tells script marks level g c s a → has_told script marks level g c s a ≡ true
  is-told (stmt.Select query) a t = is-rows query a t
  is-told (stmt.Insert table tuples) a t = is-inserts table tuples a t
  is-told (stmt.Update table assigns k) a t = is-updated table assigns k a t
  is-told (stmt.Delete table k) a t = is-deleted table k a t
  is-told (stmt.Lock table mode) a t = is-lock table mode a t
  is-told (stmt.Begin other) a t = absurd t
  is-told stmt.Commit a t = absurd t
  is-told stmt.Rollback a t = absurd t
