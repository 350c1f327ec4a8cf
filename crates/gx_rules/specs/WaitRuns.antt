-- Small runs in which somebody waits for a table, at the coordinator or at a segment, and what they come to.
use Rattle.std.specs.Prelude.{◌≡◌, ℕ, true, false, List, [], ◌∷◌, ◌++◌, None}
use Rattle.std.specs.List.{flat_map}
use Rattle.gx_tree.specs.declared.slice.Slice.TheVariants as slice
use Rattle.gx_tree.specs.declared.stmt.Level.TheVariants.{ReadCommitted}
use Rattle.gx_tree.specs.declared.stmt.Stmt.TheVariants as stmt
use Rattle.gx_modes.specs.declared.modes.Mode.{Mode}
use Rattle.gx_modes.specs.declared.modes.Mode.TheVariants.{AccessExclusive, AccessShare, Exclusive, RowExclusive, Share}
use Rattle.gx_msg.specs.declared.message.Message.{Message}
use Rattle.gx_msg.specs.declared.message.Message.TheVariants as message
use Rattle.gx_msg.specs.declared.reply.Reply.TheVariants as reply
use Rattle.gx_script.specs.declared.Script.{Script}
use Rattle.gx_store.specs.declared.answer.StmtAnswer.{StmtAnswer}
use Rattle.gx_store.specs.declared.answer.StmtAnswer.TheVariants as told
use Rattle.gx_store.specs.declared.event.Event.{Event}
use Rattle.gx_store.specs.declared.event.Event.TheVariants as event
use Rattle.gx_store.specs.declared.mark.Mark.{Mark}
use Rattle.gx_store.specs.declared.mark.Mark.TheVariants as mark
use Rattle.gx_store.specs.declared.node.NodeEvent.TheVariants.{Deliver}
use Rattle.gx_store.specs.Points.{marks_in}
use Rattle.gx_waits.specs.Claims.{claim}
use Rattle.gx_waits.specs.declared.claim.Claim.{Claim}
use Rattle.gx_waits.specs.declared.object.Object.TheVariants.{Relation}
use Rattle.gx_locks.specs.Locks.{Locks}
use Rattle.gx_rules.specs.AtSegment.{seg_rule}
use Rattle.gx_rules.specs.Expected.{at_each, gxid, hold, hold_own, node, release, table}
use Rattle.gx_rules.specs.Locks.{release_marks}
use Rattle.gx_rules.specs.Machine.{World, can, new_world}
use Rattle.gx_rules.specs.Rows.{at_two, drives, insert, line, lock_in, never, protocol_of, select_all, session, snaps_of, the_table, tuple}
use Rattle.gx_rules.specs.Segments.{SegTurn}

-- WHAT IS LOOKED AT
-- who takes, awaits and gives back which lock, and what is answered, in order
abbrev pub lock_or_answer : Mark → List Mark
lock_or_answer (mark.Answer s n answer) = mark.Answer s n answer ∷ []
lock_or_answer m = lock_in m

abbrev pub locks_and_answers : World → List Mark
locks_and_answers w = flat_map lock_or_answer (marks_in w.steps)

-- the resumptions
abbrev pub resumption_in : Event → List Event
resumption_in (event.Resume n g) = event.Resume n g ∷ []
resumption_in _ = []

abbrev pub resumptions_of : World → List Event
resumptions_of w = flat_map (λ step. resumption_in step.event) w.steps

abbrev pub wait : ℕ → ℕ → Mode → Mark
wait at g mode = mark.Wait (node at) (gxid g) table mode

abbrev pub answer : ℕ → ℕ → StmtAnswer → Mark
answer s number said = mark.Answer (session s) number said

-- A STATEMENT WAITS AT THE COORDINATOR
-- over one segment: a block locks the table, another session's INSERT waits, the block reads and commits
abbrev pub share_lock : Script
share_lock =
    record (at_two 2
    (line 0 1 (stmt.Begin ReadCommitted) ∷ line 0 2 (stmt.Lock the_table Share) ∷ line 1 1 (insert (tuple 1 1 ∷ [])) ∷ line 0 3 select_all ∷ line 0 4 stmt.Commit ∷ [])
    []) { segments = 1 }

abbrev pub share_lock_run : World
share_lock_run = drives 40 share_lock never new_world

-- The INSERT takes its snapshot when it has its table's lock: it sees the block, which has ended.
pub record WaitsForShare (w : World) : Type 0 where
  pub story : locks_and_answers w
      ≡ answer 0 1 told.Begin ∷ hold 0 1 Share ∷ hold 1 1 Share ∷ answer 0 2 told.Locked
      ∷ wait 0 2 RowExclusive
      ∷ hold 0 1 AccessShare ∷ hold 1 1 AccessShare ∷ answer 0 3 (told.Rows [])
      ∷ answer 0 4 told.Commit ∷ release 0 1 AccessShare ∷ release 0 1 Share
      ∷ release 1 1 AccessShare ∷ release 1 1 Share
      ∷ hold 0 2 RowExclusive ∷ hold 1 2 RowExclusive ∷ hold_own 1 2 ∷ answer 1 1 (told.Inserted 1) ∷ release 0 2 RowExclusive ∷ []
  pub resumed : resumptions_of w ≡ event.Resume (node 0) (gxid 2) ∷ []
  pub snapshots : snaps_of w ≡ (1, 1) ∷ (2, 2) ∷ []
  pub marks : protocol_of w ≡ mark.Commit (gxid 1) ∷ mark.LocalCommit (node 1) (gxid 2) ∷ mark.Commit (gxid 2) ∷ []

-- A SLICE WAITS AT A SEGMENT
-- a block locks the table at both segments and commits while a SELECT waits; FORGET to segment 2 is lost
abbrev pub lost_forget : Script
lost_forget =
    at_two 2
    (line 0 1 (stmt.Begin ReadCommitted) ∷ line 0 2 (stmt.Lock the_table AccessExclusive) ∷ line 1 1 select_all ∷ line 0 3 stmt.Commit ∷ [])
    (record { to_segment = true; segment = node 2; number = 2; repeat = false } ∷ [])

abbrev pub lost_forget_run : World
lost_forget_run = drives 40 lost_forget never new_world

pub record WaitsForForget (w : World) : Type 0 where
  pub story : locks_and_answers w
      ≡ answer 0 1 told.Begin ∷ at_each (λ n. hold n 1 AccessExclusive) ++ answer 0 2 told.Locked
      ∷ wait 0 2 AccessShare
      ∷ answer 0 3 told.Commit ∷ release 0 1 AccessExclusive ∷ release 1 1 AccessExclusive
      ∷ hold 0 2 AccessShare ∷ hold 1 2 AccessShare ∷ wait 2 2 AccessShare
      ∷ release 2 1 AccessExclusive ∷ hold 2 2 AccessShare
      ∷ answer 1 1 (told.Rows []) ∷ release 0 2 AccessShare ∷ []
  pub resumed : resumptions_of w ≡ event.Resume (node 0) (gxid 2) ∷ event.Resume (node 2) (gxid 2) ∷ []
  pub snapshots : snaps_of w ≡ (2, 2) ∷ []

-- MESSAGES TO ONE THAT WAITS
-- that run, where the SELECT has come to segment 2 and waits there
abbrev pub waiting_run : World
waiting_run = drives 14 lost_forget never new_world

abbrev pub hears : World → Message → SegTurn
hears w told = seg_rule lost_forget (w.segs 2) (Deliver (node 0) (record { number = 4; clock = 0; incarnation = 1; message = told })) false

-- its command of this number comes to the segment
abbrev pub exec : ℕ → Message
exec cid = message.Exec (gxid 2) (record { 0 = cid }) ReadCommitted None (gxid 1) (slice.Lock the_table AccessShare)

-- It doesn't resume while another's hold is in its way. Of a command, PREPARE and COMMIT there is no mark and no answer; ABORT drops the wait.
pub record IsHeldUp (w : World) : Type 0 where
  pub blocked : can lost_forget w (event.Resume (node 2) (gxid 2)) ≡ false
  pub again : (hears w (exec 1)).marks ≡ []
  pub next : (hears w (exec 2)).marks ≡ []
  pub promise : (hears w (message.Prepare (gxid 2))).marks ≡ []
  pub commit : (hears w (message.Commit (gxid 2))).marks ≡ []
  pub abort : (hears w (message.Abort (gxid 2))).marks ≡ release 2 2 AccessShare ∷ mark.Sent (node 0) 2 (message.Answer (gxid 2) reply.Aborted) ∷ []
  pub dropped : (hears w (message.Abort (gxid 2))).seg.locks.waits ≡ []

-- WHAT ONE HAS IS GIVEN BACK IN ORDER
abbrev pub on_table : ℕ → ℕ → Mode → Claim
on_table g t mode = claim (gxid g) (Relation (record { 0 = t })) mode

-- a transaction waits for the last of three tables, and holds the others
abbrev pub in_between : Locks
in_between =
    record {
      node = node 1;
      holds = on_table 2 1 AccessShare ∷ on_table 1 2 Exclusive ∷ on_table 2 0 RowExclusive ∷ on_table 2 0 AccessShare ∷ [];
      waits = on_table 3 2 Share ∷ on_table 2 2 RowExclusive ∷ [];
    }

abbrev pub given_back : ℕ → Mode → Mark
given_back t mode = mark.Release (node 1) (gxid 2) (Relation (record { 0 = t })) mode

-- first its dropped wait, then its holds by table and mode, and nothing of others
pub record GivesBackInOrder : Type 0 where
  pub marks : release_marks (node 1) in_between (gxid 2) ≡ given_back 2 RowExclusive ∷ given_back 0 AccessShare ∷ given_back 0 RowExclusive ∷ given_back 1 AccessShare ∷ []
