-- What a line that starts has to draw, and what a session that ends has to roll back.
use Rattle.std.specs.Prelude.{◌≡◌, true, List, Some, None, IsSome}
use Rattle.gx_ids.specs.declared.ids.Gxid.{Gxid}
use Rattle.gx_ids.specs.declared.ids.SessionId.{SessionId}
use Rattle.gx_script.specs.declared.Script.{Script}
use Rattle.gx_store.specs.declared.mark.Mark.{Mark}
use Rattle.gx_store.specs.Legal.{draws}
use Rattle.gx_store.specs.Lines.{next_stmt, state_of, transaction_of}
use Rattle.gx_store.specs.Marks.{is_aborted, started_after}
use Rattle.gx_tree.specs.declared.stmt.Stmt.{Stmt}

-- if the session's next line draws a transaction, the marks made have it
abbrev pub DrawsIfDue : Script → SessionId → List Mark → List Mark → Type 0
DrawsIfDue script session marks made =
    (line : Stmt) → next_stmt session script marks ≡ Some line → draws (state_of script session marks) line ≡ true → IsSome (started_after session None made)

-- the transaction that the session is in, where it is in one, aborts among the marks made
abbrev pub RollsBack : Script → SessionId → List Mark → List Mark → Type 0
RollsBack script session marks made = (g : Gxid) → transaction_of (state_of script session marks) session marks ≡ Some g → is_aborted made g ≡ true
