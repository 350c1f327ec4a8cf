-- What a segment's answer to a command was earned by: its rule gave it when the command came, or when its slice went on behind a
-- wait for its table's lock or at a row, and what it says was so then.
use Rattle.std.specs.Prelude.{◌≡◌, ◌≤◌, ◌<◌, ◌⊎◌, ℕ, Bool, true, List, [], ◌∷◌, ◌++◌, slice_get, take, Some, None}
use Rattle.std.specs.declared.option.Option.{Option}
use Rattle.gx_ids.specs.declared.ids.Cid.{Cid}
use Rattle.gx_ids.specs.declared.ids.Gxid.{Gxid}
use Rattle.gx_ids.specs.declared.ids.Node.{Node}
use Rattle.gx_ids.specs.declared.rid.Rid.{Rid}
use Rattle.gx_tree.specs.declared.slice.Slice.{Slice}
use Rattle.gx_tree.specs.declared.stmt.Level.{Level}
use Rattle.gx_dsnap.specs.declared.snapshot.Snapshot.{Snapshot}
use Rattle.gx_msg.specs.declared.message.Envelope.{Envelope}
use Rattle.gx_msg.specs.declared.message.Message.{Message}
use Rattle.gx_msg.specs.declared.message.Message.TheVariants.{Answer, Exec}
use Rattle.gx_msg.specs.declared.reply.Reply.{Reply}
use Rattle.gx_msg.specs.declared.reply.Reply.TheVariants.{Done, Failed}
use Rattle.gx_script.specs.declared.Script.{Script}
use Rattle.gx_store.specs.declared.event.Event.{Event}
use Rattle.gx_store.specs.declared.mark.Mark.{Mark}
use Rattle.gx_store.specs.declared.mark.Mark.TheVariants.{Sent}
use Rattle.gx_store.specs.declared.run.Step.{Step}
use Rattle.gx_store.specs.declared.event.Event.TheVariants.{Receive, Resume}
use Rattle.gx_store.specs.Messages.{IsSent, Receives}
use Rattle.gx_store.specs.Ordered.{IsSegment}
use Rattle.gx_store.specs.Points.{marks_in}
use Rattle.gx_store.specs.Refusals.{the_coordinator}
use Rattle.gx_rules.specs.AtSegment.{on_message, raised, resumes}
use Rattle.gx_rules.specs.Changes.{end_lock, tuple_lock}
use Rattle.gx_rules.specs.Machine.{World, found, world_of}
use Rattle.gx_rules.specs.Segments.{Suspended, after_marks, local_of, reply}
use Rattle.gx_rules.specs.Locks.{hold_mark}
use Rattle.gx_rules.specs.Running.{goes_on, is_granted, runs_slice}
use Rattle.gx_store.specs.Locks.{slice_lock}
use Rattle.gx_locks.specs.Locks.{Locks, wait_of}
use Rattle.gx_waits.specs.Claims.{is_clear}
use Rattle.gx_waits.specs.declared.claim.Claim.{Claim}
use Rattle.gx_law_order.specs.Orders.{IsOrder}
use Rattle.gx_law_answers.specs.Truth.{IsTruth, SendNothing}

-- events, each with whether an append to a journal fails in it
abbrev pub Events : Type 0
Events = List (Event × Bool)

-- The event brings an EXEC to the segment, of a command that is new there; its slice takes its table's lock and runs by the rule,
-- and so it is answered.
pub record RunsAtOnce (script : Script) (w : World) (event : Event) (fails : Bool) (segment : Node) (g : Gxid) (c : Cid)
    (level : Level) (snapshot : Option Snapshot) (slice : Slice) (answer : Reply) : Type 0 where
  pub from : Node
  pub number : ℕ
  pub is : event ≡ Receive from segment number
  pub envelope : Envelope
  pub posted : found from segment number w.sent ≡ Some envelope
  pub horizon : Gxid
  pub told : envelope.message ≡ Exec g c level snapshot horizon slice
  pub new : (local_of (w.segs segment.0) g).last < c.0
  pub locks : Locks
  pub wanted : Claim
  pub lock : slice_lock script g slice ≡ wanted
  pub ran : on_message script (w.segs segment.0) fails envelope.message
      ≡ after_marks (hold_mark (w.segs segment.0).node wanted ∷ [])
      (runs_slice (record (raised (w.segs segment.0) horizon) { locks = locks }) g c level snapshot slice)
  pub given : (on_message script (w.segs segment.0) fails envelope.message).outs ≡ reply g answer ∷ []

-- one of the steps, at the node, received the message from the coordinator
pub record WasReceived (steps : List Step) (node : Node) (m : Message) : Type 0 where
  pub place : ℕ
  pub step : Step
  pub at : slice_get steps place ≡ Some step
  pub there : step.stamp.node ≡ node
  pub received : Receives (take place steps) step.event the_coordinator node m

-- what a slice waits for: its table's lock; or, at a row, the row's lock, or a moment's lock on its writer's end
abbrev pub WaitsFor : Script → Gxid → Slice → Option Rid → Claim → Type 0
WaitsFor script g slice None wanted = slice_lock script g slice ≡ wanted
WaitsFor script g slice (Some rid) wanted = (tuple_lock g rid ≡ wanted) ⊎ ((writer : Gxid) × (end_lock g writer ≡ wanted))

-- The event is the resumption of the transaction's slice, which came with an EXEC before, of the last command there, and has waited
-- since then, unanswered; nothing is in the way of what it waits for, its table's lock or at a row that row's or its writer's end; it goes
-- on by the rule, from the start or at that row, and so it is answered.
pub record RunsBehindWait (script : Script) (w : World) (event : Event) (segment : Node) (g : Gxid) (c : Cid)
    (level : Level) (snapshot : Option Snapshot) (slice : Slice) (answer : Reply) : Type 0 where
  pub is : event ≡ Resume segment g
  pub waiting : Suspended
  pub waits : (local_of (w.segs segment.0) g).suspended ≡ Some waiting
  pub command : waiting.cid ≡ c
  pub level_is : waiting.level ≡ level
  pub snapshot_is : waiting.snapshot ≡ snapshot
  pub slice_is : waiting.slice ≡ slice
  pub horizon : Gxid
  pub came : WasReceived w.steps segment (Exec g c level snapshot horizon slice)
  pub last : (local_of (w.segs segment.0) g).last ≡ c.0
  pub unanswered : (local_of (w.segs segment.0) g).answer ≡ None
  pub wanted : Claim
  pub wants : wait_of (w.segs segment.0).locks g ≡ Some wanted
  pub lock : WaitsFor script g slice waiting.row wanted
  pub free : is_clear (w.segs segment.0).locks.holds (w.segs segment.0).locks.waits wanted ≡ true
  pub ran : resumes (w.segs segment.0) g (wait_of (w.segs segment.0).locks g) (local_of (w.segs segment.0) g).suspended
      ≡ goes_on (is_granted (w.segs segment.0) g wanted) g waiting waiting.row
  pub given : (resumes (w.segs segment.0) g (wait_of (w.segs segment.0).locks g) (local_of (w.segs segment.0) g).suspended).outs ≡ reply g answer ∷ []

-- In the last of these events, with a step of the segment, a command's slice took its lock there and ran, or went on, and so it was
-- answered: the step sends the answer, behind its other marks, and nothing else.
pub record IsGiven (script : Script) (events : Events) (segment : Node) (g : Gxid) (c : Cid) (level : Level) (snapshot : Option Snapshot) (slice : Slice) (answer : Reply) : Type 0 where
  pub before : Events
  pub event : Event
  pub fails : Bool
  pub last : events ≡ before ++ (event, fails) ∷ []
  pub step : Step
  pub steps : (world_of script events).steps ≡ (world_of script before).steps ++ step ∷ []
  pub place : step.stamp.node ≡ segment
  pub ran : RunsAtOnce script (world_of script before) event fails segment g c level snapshot slice answer
      ⊎ RunsBehindWait script (world_of script before) event segment g c level snapshot slice answer
  pub own : List Mark
  pub number : ℕ
  pub silent : SendNothing own
  pub marks : step.marks ≡ own ++ Sent the_coordinator number (Answer g answer) ∷ []

-- Behind some of the events the segment was given the answer by its rule, for a command that was its transaction's, and had sent it;
-- and what the answer says was so.
pub record IsEarned (script : Script) (events : Events) (segment : Node) (g : Gxid) (c : Cid) (answer : Reply) : Type 0 where
  pub upto : Events
  pub rest : Events
  pub split : events ≡ upto ++ rest
  pub level : Level
  pub snapshot : Option Snapshot
  pub slice : Slice
  pub given : IsGiven script upto segment g c level snapshot slice answer
  pub number : ℕ
  pub sent : IsSent (world_of script upto).steps segment the_coordinator number (Answer g answer)
  pub order : IsOrder script (marks_in (world_of script upto).steps) segment g c level snapshot slice
  pub taken : c.0 ≤ (local_of ((world_of script upto).segs segment.0) g).last
  pub truth : IsTruth (marks_in (world_of script given.before).steps) (marks_in (world_of script upto).steps) segment level g c slice answer

-- an answer to a command was earned
abbrev pub IsReplyEarned : Script → Events → Node → Gxid → Reply → Type 0
IsReplyEarned script events segment g (Done c wrote count part) = IsEarned script events segment g c (Done c wrote count part)
IsReplyEarned script events segment g (Failed c cause) = IsEarned script events segment g c (Failed c cause)
IsReplyEarned script events segment g _ = Unit {0}

-- each answer that a segment sent in these events
abbrev pub AreAnswersEarned : Script → Events → Type 0
AreAnswersEarned script events =
    (segment to : Node) (number : ℕ) (g : Gxid) (answer : Reply) → IsSegment script segment
    → IsSent (world_of script events).steps segment to number (Answer g answer) → IsReplyEarned script events segment g answer
