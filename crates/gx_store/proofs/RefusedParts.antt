-- What the proofs of the small runs share.
use Rattle.std.proofs.Common.{◌≡◌, inl, inr, ℕ, List, [], Some, Bool, true, false, arith}
use Rattle.std.specs.Prelude.{slice_get}
use Rattle.gx_ids.specs.declared.ids.Cid.{Cid}
use Rattle.gx_ids.specs.declared.ids.Gxid.{Gxid}
use Rattle.gx_ids.specs.declared.ids.Node.{Node}
use Rattle.gx_ids.specs.declared.ids.SessionId.{SessionId}
use Rattle.gx_msg.specs.declared.message.Message.TheVariants as message
use Rattle.gx_msg.specs.declared.reply.Reply.TheVariants as reply
use Rattle.gx_store.specs.declared.event.Event.TheVariants as event
use Rattle.gx_store.specs.declared.mark.Mark.{Mark}
use Rattle.gx_store.specs.Messages.{ReceivesAt}
use Rattle.gx_store.specs.Protocol.{IsReturned}
use Rattle.gx_store.specs.Refusals.{the_coordinator}

pub no-more : {A : Type 0} (k : ℕ) (x : A) → slice_get [] k ≡ Some x → ⊥
no-more k x e = cc

pub clash : (b : Bool) → b ≡ true → b ≡ false → ⊥
clash b x y = grind arith

-- a step that starts a line receives nothing
no-receipt : (session : SessionId) (from to : Node) (number : ℕ) → event.Start session ≡ event.Receive from to number → ⊥
no-receipt session from to number e = cc

pub none-returned : {earlier later : List Mark} (session : SessionId) (g : Gxid) (c : Cid) (node : Node) → IsReturned (record { steps = []; event = event.Start session; earlier = earlier; later = later }) g c node → ⊥
none-returned session g c node back = by_place back.received.0 back.received.1
  where
    by_place : (k : ℕ) → ReceivesAt (record { steps = []; event = event.Start session; earlier = []; later = [] }) k node the_coordinator (message.Answer g (reply.Done c back.wrote back.count back.part)) → ⊥
    by_place k (inl z) = no-more k z.0 z.1
    by_place k (inr z) = no-receipt session node the_coordinator z.1.number z.1.is
