-- The statement of a transaction's command, found by its number among the lines of its session.
use Rattle.std.specs.Prelude.{ℕ, ◌+◌, ◌-◌, ◌==◌, nat_le, Bool, true, false, if◌then◌else◌, ◌&&◌, List, [], ◌∷◌, ◌++◌, Some, None}
use Rattle.std.specs.declared.option.Option.{Option}
use Rattle.gx_ids.specs.declared.ids.Cid.{Cid}
use Rattle.gx_ids.specs.declared.ids.Gxid.{Gxid}
use Rattle.gx_ids.specs.declared.ids.SessionId.{SessionId}
use Rattle.gx_tree.specs.declared.stmt.Level.TheVariants.{ReadCommitted}
use Rattle.gx_tree.specs.declared.stmt.Stmt.{Stmt}
use Rattle.gx_tree.specs.declared.stmt.Stmt.TheVariants.{Begin, Commit, Rollback}
use Rattle.gx_script.specs.declared.Line.{Line}
use Rattle.gx_script.specs.declared.Script.{Script}
use Rattle.gx_store.specs.declared.mark.Mark.{Mark}
use Rattle.gx_store.specs.declared.mark.Mark.TheVariants as mark
use Rattle.gx_store.specs.Lines.{InBlock, is_command, stmt_of}
use Rattle.gx_store.specs.Marks.{answer_count, is_same_session}

-- the session and the number of the line at which the transaction was started
abbrev pub began_from : List Mark → List Mark → Gxid → Option (SessionId × ℕ)
began_from before [] g = None
began_from before (mark.Start h s ∷ ms) g = if h.0 == g.0 then Some (s, answer_count s before + 1) else began_from (before ++ mark.Start h s ∷ []) ms g
began_from before (m ∷ ms) g = began_from (before ++ m ∷ []) ms g

-- COMMIT and ROLLBACK close a block
abbrev pub closes_block : Stmt → Bool
closes_block Commit = true
closes_block Rollback = true
closes_block _ = false

-- the session's command of this number in the block whose first line has the number `first`
abbrev pub nth_command : SessionId → ℕ → ℕ → List Line → Option Stmt
nth_command session first c [] = None
nth_command session first c (l ∷ ls) =
    if is_same_session l.session session && nat_le first l.number
    then (if is_command (InBlock ReadCommitted 0) l.stmt
    then (if c == 1 then Some l.stmt else nth_command session first (c - 1) ls)
    else (if closes_block l.stmt then None else nth_command session first c ls))
    else nth_command session first c ls

-- the statement of a transaction's command, where the line of this number started it
abbrev pub command_from : Script → SessionId → ℕ → Option Stmt → ℕ → Option Stmt
command_from script session number (Some (Begin level)) c = nth_command session (number + 1) c script.lines
command_from script session number stmt c = if c == 1 then stmt else None

abbrev pub command_at : Script → Option (SessionId × ℕ) → ℕ → Option Stmt
command_at script None c = None
command_at script (Some began) c = command_from script began.0 began.1 (stmt_of began.0 began.1 script.lines) c

abbrev pub stmt_of_command : Script → List Mark → Gxid → Cid → Option Stmt
stmt_of_command script marks g c = command_at script (began_from [] marks g) c.0
