-- Slices that wait: the ways of a segment's turn, and that a command that has still to run there isn't answered there.
use Rattle.std.proofs.Common.{◌≡◌, ◌≤◌, ◌<◌, ℕ, List, [], Some, Bool}
use Rattle.gx_lemmas.proofs.Numbers.{lt-le}
use Rattle.gx_ids.specs.declared.ids.Cid.{Cid}
use Rattle.gx_ids.specs.declared.ids.Gxid.{Gxid}
use Rattle.gx_ids.specs.declared.ids.Node.{Node}
use Rattle.gx_tree.specs.declared.part.Part.{Part}
use Rattle.gx_msg.specs.declared.message.Message.{Message}
use Rattle.gx_msg.specs.declared.message.Message.TheVariants as message
use Rattle.gx_msg.specs.declared.reply.Reply.TheVariants as reply
use Rattle.gx_script.specs.declared.Script.{Script}
use Rattle.gx_store.specs.declared.event.Event.{Event}
use Rattle.gx_store.specs.Language.{AreLinesNumbered}
use Rattle.gx_store.specs.Messages.{IsSent}
use Rattle.gx_store.specs.Points.{marks_in}
use Rattle.gx_rules.specs.AtSegment.{on_message}
use Rattle.gx_rules.specs.Machine.{World, world_of}
use Rattle.gx_rules.specs.Segments.{Seg, SegTurn, Suspended, local_of}
use Rattle.gx_law_order.proofs.Ordered.{Well, world_well}
use Rattle.gx_law_order.proofs.Waiting.{waiting}
use Rattle.gx_law_writes.proofs.Next.{below-next, next_command, waits-next}
use Rattle.gx_law_writes.proofs.Told.{sending-told}
use Rattle.gx_law_writes.proofs.Turns.{Turns, message-turns}
use Rattle.gx_law_writes.proofs.World.{locals_in, world-holds}
pub use Rattle.gx_law_writes.proofs.Turns.{Waited}

abbrev pub Ways : Script → Seg → Message → SegTurn → Type 0
Ways script s m turn = Turns script s m turn

pub message-ways : (script : Script) (w : World) → Well script w → (i : ℕ) (fails : Bool) (m : Message) → Ways script (w.segs i) m (on_message script (w.segs i) fails m)
message-ways script w good i fails m = message-turns script (w.segs i) fails m

module _ (script : Script) (some : 1 ≤ script.segments) (numbered : AreLinesNumbered [] script.lines) (es : List (Event × Bool)) (node : Node) (one : 1 ≤ node.0) (g : Gxid) where
  -- what the segment has told of is below what has still to run
  told-below : (c : Cid) (to : Node) (number : ℕ) (wrote : Bool) (count : ℕ) (part : Part) → IsSent (world_of script es).steps node to number (message.Answer g (reply.Done c wrote count part)) → c.0 < next_command (local_of ((world_of script es).segs node.0) g)
  told-below c to number wrote count part sent =
      (sending-told script (marks_in (world_of script es).steps) (locals_in (world_of script es).segs) (world_of script es).steps sent.step sent.mark node to number (message.Answer g (reply.Done c wrote count part)) one (world-holds script some numbered es).told sent.sending).0

  -- what is new there isn't answered there
  pub new-untold : (c : Cid) (to : Node) (number : ℕ) (wrote : Bool) (count : ℕ) (part : Part) → (local_of ((world_of script es).segs node.0) g).last < c.0 → IsSent (world_of script es).steps node to number (message.Answer g (reply.Done c wrote count part)) → ⊥
  new-untold c to number wrote count part fresh sent = lt-le _ _ fresh (below-next (local_of ((world_of script es).segs node.0) g) c.0 (told-below c to number wrote count part sent))

  -- nor is what waits there
  pub waits-untold : (x : Suspended) (to : Node) (number : ℕ) (wrote : Bool) (count : ℕ) (part : Part) → (local_of ((world_of script es).segs node.0) g).suspended ≡ Some x → IsSent (world_of script es).steps node to number (message.Answer g (reply.Done x.cid wrote count part)) → ⊥
  waits-untold x to number wrote count part e sent =
      lt-le _ _ (told-below x.cid to number wrote count part sent)
      (waits-next (local_of ((world_of script es).segs node.0) g) x e (waiting script (world_of script es) (world_well script some es) node.0 g x e).last)
