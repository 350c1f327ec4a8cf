-- Small runs in which a request waits behind those who wait ahead of it, or passes them, and what they come to.
use Rattle.std.specs.Prelude.{◌≡◌, ℕ, true, false, None, List, [], ◌∷◌}
use Rattle.gx_ids.specs.declared.ids.Table.{Table}
use Rattle.gx_tree.specs.declared.query.Item.TheVariants.{Col}
use Rattle.gx_tree.specs.declared.stmt.Level.TheVariants.{ReadCommitted}
use Rattle.gx_tree.specs.declared.stmt.Stmt.{Stmt}
use Rattle.gx_tree.specs.declared.stmt.Stmt.TheVariants as stmt
use Rattle.gx_modes.specs.declared.modes.Mode.{Mode}
use Rattle.gx_modes.specs.declared.modes.Mode.TheVariants.{AccessExclusive, AccessShare, RowExclusive, Share}
use Rattle.gx_msg.specs.declared.message.Message.TheVariants as message
use Rattle.gx_script.specs.declared.Line.{Line}
use Rattle.gx_script.specs.declared.Script.{Script}
use Rattle.gx_store.specs.declared.answer.Refused.TheVariants as refused
use Rattle.gx_store.specs.declared.answer.StmtAnswer.TheVariants as told
use Rattle.gx_store.specs.declared.event.Event.TheVariants as event
use Rattle.gx_store.specs.declared.mark.Mark.TheVariants as mark
use Rattle.gx_waits.specs.declared.object.Object.TheVariants.{Relation}
use Rattle.gx_waits.specs.declared.verdict.Verdict.TheVariants.{Victims}
use Rattle.gx_rules.specs.Expected.{gxid, hold, node, release}
use Rattle.gx_rules.specs.Machine.{World, can, new_world}
use Rattle.gx_rules.specs.RoundRuns.{begins, edge, graph}
use Rattle.gx_rules.specs.Rows.{answers_of, at_two, drives, last_marks, line, never, select_all, session, the_table, two_columns}
use Rattle.gx_rules.specs.WaitRuns.{answer, locks_and_answers, resumptions_of, wait}

-- a script at one segment
abbrev pub at_one : ℕ → List Line → Script
at_one sessions lines = record (at_two sessions lines []) { segments = 1 }

abbrev pub locks_in : ℕ → ℕ → Mode → Line
locks_in s number mode = line s number (stmt.Lock the_table mode)

-- A READER BEHIND ONE WHO WAITS FOR ALL
-- a block has read the table, a second one waits for it in the strongest mode, a third session and the block itself want to read
abbrev pub behind_exclusive : Script
behind_exclusive =
    at_one 3
    (begins 0 ∷ line 0 2 select_all ∷ begins 1 ∷ locks_in 1 2 AccessExclusive ∷ line 2 1 select_all ∷ line 0 3 select_all
    ∷ line 0 4 stmt.Commit ∷ line 1 3 stmt.Commit ∷ [])

abbrev pub behind_exclusive_at : ℕ → World
behind_exclusive_at steps = drives steps behind_exclusive never new_world

-- The block passes, since what is waited for waits for it. The reader waits, is granted behind the second block, and not before it.
pub record WaitsBehindExclusive : Type 0 where
  pub story : locks_and_answers (behind_exclusive_at 40)
      ≡ answer 0 1 told.Begin ∷ hold 0 1 AccessShare ∷ hold 1 1 AccessShare ∷ answer 0 2 (told.Rows [])
      ∷ answer 1 1 told.Begin ∷ wait 0 2 AccessExclusive
      ∷ wait 0 3 AccessShare
      ∷ hold 0 1 AccessShare ∷ hold 1 1 AccessShare ∷ answer 0 3 (told.Rows [])
      ∷ answer 0 4 told.Commit ∷ release 0 1 AccessShare ∷ release 1 1 AccessShare
      ∷ hold 0 2 AccessExclusive ∷ hold 1 2 AccessExclusive ∷ answer 1 2 told.Locked
      ∷ answer 1 3 told.Commit ∷ release 0 2 AccessExclusive ∷ release 1 2 AccessExclusive
      ∷ hold 0 3 AccessShare ∷ hold 1 3 AccessShare ∷ answer 2 1 (told.Rows []) ∷ release 0 3 AccessShare ∷ []
  pub resumed : resumptions_of (behind_exclusive_at 40) ≡ event.Resume (node 0) (gxid 2) ∷ event.Resume (node 0) (gxid 3) ∷ []
  pub first : can behind_exclusive (behind_exclusive_at 13) (event.Resume (node 0) (gxid 2)) ≡ true
  pub second : can behind_exclusive (behind_exclusive_at 13) (event.Resume (node 0) (gxid 3)) ≡ false

-- ONE WHO READS ISN'T LET PAST
-- a block has read the table, a second one writes it, a third waits to read without writers, and the first wants to write
abbrev pub behind_share : Script
behind_share =
    at_one 3
    (begins 0 ∷ line 0 2 select_all ∷ begins 1 ∷ locks_in 1 2 RowExclusive ∷ begins 2 ∷ locks_in 2 2 Share ∷ locks_in 0 3 RowExclusive
    ∷ line 1 3 stmt.Commit ∷ line 2 3 stmt.Commit ∷ line 0 4 stmt.Commit ∷ [])

abbrev pub behind_share_run : World
behind_share_run = drives 40 behind_share never new_world

-- Its own lock isn't what the third waits for: it waits behind that.
pub record WaitsBehindShare (w : World) : Type 0 where
  pub story : locks_and_answers w
      ≡ answer 0 1 told.Begin ∷ hold 0 1 AccessShare ∷ hold 1 1 AccessShare ∷ answer 0 2 (told.Rows [])
      ∷ answer 1 1 told.Begin ∷ hold 0 2 RowExclusive ∷ hold 1 2 RowExclusive ∷ answer 1 2 told.Locked
      ∷ answer 2 1 told.Begin ∷ wait 0 3 Share
      ∷ wait 0 1 RowExclusive
      ∷ answer 1 3 told.Commit ∷ release 0 2 RowExclusive ∷ release 1 2 RowExclusive
      ∷ hold 0 3 Share ∷ hold 1 3 Share ∷ answer 2 2 told.Locked
      ∷ answer 2 3 told.Commit ∷ release 0 3 Share ∷ release 1 3 Share
      ∷ hold 0 1 RowExclusive ∷ hold 1 1 RowExclusive ∷ answer 0 3 told.Locked
      ∷ answer 0 4 told.Commit ∷ release 0 1 AccessShare ∷ release 0 1 RowExclusive ∷ []

-- A DEADLOCK THROUGH A QUEUE
-- two blocks have read a table each, a third waits for the first table in the strongest mode; the second block wants to read that
-- table too, and the first one wants the other's table alone
abbrev pub other_table : Table
other_table = record { 0 = 1 }

abbrev pub select_other : Stmt
select_other = stmt.Select (record { table = other_table; items = Col 0 ∷ Col 1 ∷ []; cond = None; group = []; grouped = false; order = []; limit = None })

abbrev pub through_queue : Script
through_queue =
    record (at_one 3
    (begins 0 ∷ begins 1 ∷ begins 2 ∷ line 0 2 select_all ∷ line 2 2 select_other ∷ locks_in 1 2 AccessExclusive ∷ line 2 3 select_all
    ∷ line 0 3 (stmt.Lock other_table AccessExclusive) ∷ line 0 4 stmt.Commit ∷ line 1 3 stmt.Commit ∷ []))
    { tables = two_columns ∷ two_columns ∷ [] }

abbrev pub through_queue_at : ℕ → World
through_queue_at steps = drives steps through_queue never new_world

-- Who waits behind the third waits for it: the youngest of the three is cancelled, and the others go on.
pub record CancelsThroughQueue : Type 0 where
  pub decided : last_marks (through_queue_at 15)
      ≡ mark.Recheck 1 (graph 0 (edge 2 1 ∷ edge 3 2 ∷ edge 1 3 ∷ [])) (Victims (gxid 3 ∷ []))
      ∷ mark.Abort (gxid 3) ∷ answer 2 3 (told.Refused (refused.Victim 1))
      ∷ mark.Release (node 0) (gxid 3) (Relation the_table) AccessShare ∷ mark.Release (node 0) (gxid 3) (Relation other_table) AccessShare
      ∷ mark.Sent (node 1) 4 (message.Abort (gxid 3)) ∷ []
  pub answers : answers_of (through_queue_at 40)
      ≡ (session 0, 1, told.Begin) ∷ (session 1, 1, told.Begin) ∷ (session 2, 1, told.Begin)
      ∷ (session 0, 2, told.Rows []) ∷ (session 2, 2, told.Rows [])
      ∷ (session 2, 3, told.Refused (refused.Victim 1)) ∷ (session 0, 3, told.Locked) ∷ (session 0, 4, told.Commit)
      ∷ (session 1, 2, told.Locked) ∷ (session 1, 3, told.Commit) ∷ []
