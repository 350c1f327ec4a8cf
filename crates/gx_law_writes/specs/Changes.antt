-- What the turns of UPDATEs and DELETEs do and say.
use Rattle.std.specs.Prelude.{◌≡◌, ◌≤◌, ◌<◌, ℕ, Bool, true, List, [], Some}
use Rattle.std.specs.declared.option.Option.{Option}
use Rattle.gx_ids.specs.declared.ids.Cid.{Cid}
use Rattle.gx_ids.specs.declared.ids.Gxid.{Gxid}
use Rattle.gx_ids.specs.declared.ids.Node.{Node}
use Rattle.gx_tree.specs.declared.part.Part.{Part}
use Rattle.gx_tree.specs.declared.slice.Slice.{Slice}
use Rattle.gx_tree.specs.declared.stmt.Level.{Level}
use Rattle.gx_dsnap.specs.declared.snapshot.Snapshot.{Snapshot}
use Rattle.gx_locks.specs.Locks.{wait_of}
use Rattle.gx_msg.specs.declared.message.Envelope.{Envelope}
use Rattle.gx_msg.specs.declared.message.Message.TheVariants.{Answer, Exec}
use Rattle.gx_msg.specs.declared.reply.Reply.TheVariants.{Done}
use Rattle.gx_script.specs.declared.Script.{Script}
use Rattle.gx_store.specs.declared.event.Event.{Event}
use Rattle.gx_store.specs.declared.event.Event.TheVariants.{Receive, Resume}
use Rattle.gx_store.specs.declared.mark.Mark.{Mark}
use Rattle.gx_store.specs.declared.mark.Mark.TheVariants.{Fault}
use Rattle.gx_store.specs.declared.node.NodeEvent.TheVariants as here
use Rattle.gx_store.specs.Faults.{LegalFault}
use Rattle.gx_store.specs.Messages.{IsSent}
use Rattle.gx_store.specs.Ordered.{IsSegment}
use Rattle.gx_store.specs.Points.{Point, marks_in}
use Rattle.gx_rules.specs.AtSegment.{on_message, resumes}
use Rattle.gx_rules.specs.Changes.{Change, change_of}
use Rattle.gx_rules.specs.Machine.{World, found, seg_can}
use Rattle.gx_rules.specs.Segments.{SegTurn, Suspended, local_of}
use Rattle.gx_law_order.specs.Rest.{EachMark}
use Rattle.gx_law_writes.specs.Says.{Says, count_at}

abbrev pub FaultLegal : Script → Point → Mark → Type 0
FaultLegal script point (Fault g c rid image) = LegalFault script point g c rid image
FaultLegal script point _ = Unit {0}

-- In the event the command has this turn at the segment: each fault in it is legal at its point, whatever comes behind it in the
-- step; and the turn says what is so.
pub record IsTrueTurn (script : Script) (w : World) (event : Event) (node : Node) (g : Gxid) (k : Change) (turn : SegTurn) : Type 0 where
  pub faults : (later : List Mark) → EachMark (FaultLegal script) w.steps event [] turn.marks later
  pub says : Says (marks_in w.steps) node g k turn

-- so is each turn of a command that comes to a segment where it is new
abbrev pub AreNewTurnsTrue : Script → World → Type 0
AreNewTurnsTrue script w =
    (from to : Node) (number : ℕ) (envelope : Envelope) (fails : Bool) (g : Gxid) (c : Cid) (level : Level) (snapshot : Option Snapshot) (horizon : Gxid) (slice : Slice) (k : Change)
    → IsSegment script to → found from to number w.sent ≡ Some envelope → envelope.message ≡ Exec g c level snapshot horizon slice → change_of c level snapshot slice ≡ Some k
    → (local_of (w.segs to.0) g).last < c.0 → IsTrueTurn script w (Receive from to number) to g k (on_message script (w.segs to.0) fails envelope.message)

-- and of one whose wait ends
abbrev pub AreLaterTurnsTrue : Script → World → Type 0
AreLaterTurnsTrue script w =
    (node : Node) (g : Gxid) (x : Suspended) (k : Change) → seg_can script (w.segs node.0) (here.Resume g) ≡ true → (local_of (w.segs node.0) g).suspended ≡ Some x
    → change_of x.cid x.level x.snapshot x.slice ≡ Some k
    → IsTrueTurn script w (Resume node g) node g k (resumes (w.segs node.0) g (wait_of (w.segs node.0).locks g) (local_of (w.segs node.0) g).suspended)

-- once a segment has said that a command is done there, the command writes no more rows there
abbrev pub DoCountsStay : World → World → Type 0
DoCountsStay w late =
    (node to : Node) (number : ℕ) (g : Gxid) (c : Cid) (wrote : Bool) (count : ℕ) (part : Part) → 1 ≤ node.0
    → IsSent w.steps node to number (Answer g (Done c wrote count part))
    → count_at node g c (marks_in late.steps) ≡ count_at node g c (marks_in w.steps)
