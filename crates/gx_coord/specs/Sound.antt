-- What the rule's data keeps, whatever an envelope holds.
use Rattle.std.specs.Prelude.{◌≡◌, ℕ, ◌+◌, ◌*◌, ◌^◌, ◌<◌, ◌≤◌, true, List, length, Some, None}
use Rattle.std.specs.declared.option.Option.{Option}
use Rattle.gx_ids.specs.declared.ids.Node.{Node}
use Rattle.gx_tree.specs.declared.stmt.Stmt.{Stmt}
use Rattle.gx_dtx.specs.Nodes.{AreRising, has}
use Rattle.gx_dtx.specs.Table.{Table, find_txn, participants_in}
use Rattle.gx_dtx.specs.declared.txn.Txn.{Txn}
use Rattle.gx_msg.specs.declared.message.Message.{Message}
use Rattle.gx_msg.specs.declared.message.Message.TheVariants as message
use Rattle.gx_msg.specs.declared.reply.Reply.{Reply}
use Rattle.gx_msg.specs.declared.reply.Reply.TheVariants as reply
use Rattle.gx_script.specs.declared.Script.{Script}
use Rattle.gx_store.specs.declared.mark.Mark.{Mark}
use Rattle.gx_store.specs.declared.node.NodeEvent.{NodeEvent}
use Rattle.gx_store.specs.declared.node.NodeEvent.TheVariants as event
use Rattle.gx_rules.specs.Coordinators.{Command, Coord, Work}
use Rattle.gx_law_order.specs.Places.{CoordIn}
use Rattle.gx_law_order.specs.Past.{Past}
use Rattle.gx_law_order.specs.Sessions.{Kept}
use Rattle.gx_law_order.specs.Stages.{IsWhole, Stage, stage}
use Rattle.gx_rules.specs.Snapshots.{latest_number}
use Rattle.gx_law_order.specs.Standings.{gx}
use Rattle.gx_law_order.specs.Stages.Stage.{Live}
use Rattle.gx_coord.specs.Turns.{AreFit}

-- The parts fit the statement, and each raised the count by less than 2^64. While the transaction's commands run, the nodes
-- whose answers are awaited are its participants.
pub record IsSoundCommand (k : Command) (participants : List Node) (now : Stage) : Type 0 where
  pub fits : AreFit k.stmt k.parts
  pub count : k.count ≤ 2 ^ 64 * length k.parts
  pub awaited : now ≡ Live → (i : Node) → has i k.awaited ≡ true → has i participants ≡ true

abbrev pub AreSoundIn : Option Command → List Node → Stage → Type 0
AreSoundIn None participants now = Unit {0}
AreSoundIn (Some k) participants now = IsSoundCommand k participants now

-- The writers rise and are participants; the session's lines are no fewer than the commands, and no fewer with a statement that
-- waits, which gets its number when it goes out.
pub record IsSoundWork (w : Work) (lines : ℕ) (t : Option Txn) : Type 0 where
  pub writers : AreRising w.writers
  pub among : stage t ≡ Live → (i : Node) → has i w.writers ≡ true → has i (participants_in t) ≡ true
  pub command : AreSoundIn w.command (participants_in t) (stage t)
  pub last : w.last ≤ lines
  pub room : (line : Stmt) → w.waiting ≡ Some line → w.last + 1 ≤ lines

abbrev pub AreSound : Coord → Type 0
AreSound c = (g : ℕ) → IsSoundWork (c.works g) (c.sessions (c.works g).session.0).lines (find_txn c.table (gx g))

pub record IsSound (script : Script) (c : Coord) : Type 0 where
  pub kept : Kept script c
  pub marks : List Mark
  pub past : Past c marks
  pub inside : CoordIn script c
  pub works : AreSound c

-- the counts in what comes have 64 bits
abbrev pub IsSmallReply : Reply → Type 0
IsSmallReply (reply.Done cid wrote count part) = count < 2 ^ 64
IsSmallReply _ = Unit {0}

abbrev pub IsSmallMessage : Message → Type 0
IsSmallMessage (message.Answer g r) = IsSmallReply r
IsSmallMessage _ = Unit {0}

abbrev pub IsSmall : NodeEvent → Type 0
IsSmall (event.Deliver from envelope) = IsSmallMessage envelope.message
IsSmall _ = Unit {0}

-- the transactions were drawn, and so was the greatest that has ended
pub record IsDrawn (d : Table) : Type 0 where
  pub whole : IsWhole d
  pub late : latest_number d.latest_ended < d.next.0
