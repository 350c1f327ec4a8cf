-- Who waits for a lock at a node says there neither that its command is done nor that it has failed.
use Rattle.std.specs.Prelude.{◌≡◌, Bool, true, false, List, [], ◌∷◌, ◌++◌}
use Rattle.std.specs.List.{list_any}
use Rattle.gx_ids.specs.declared.ids.Gxid.{Gxid}
use Rattle.gx_ids.specs.declared.ids.Node.{Node}
use Rattle.gx_msg.specs.declared.message.Message.TheVariants as message
use Rattle.gx_msg.specs.declared.reply.Reply.TheVariants as reply
use Rattle.gx_store.specs.declared.mark.Mark.{Mark}
use Rattle.gx_store.specs.declared.mark.Mark.TheVariants.{Sent}
use Rattle.gx_store.specs.declared.run.Step.{Step}
use Rattle.gx_store.specs.Marks.{is_same_gxid}
use Rattle.gx_store.specs.Points.{marks_in}
use Rattle.gx_store.specs.Waits.{waits_at}

-- a wait of the transaction stands at the node
abbrev pub has_wait : List Mark → Node → Gxid → Bool
has_wait marks node g = list_any (λ wait. is_same_gxid wait.gxid g) (waits_at marks node)

-- the node sends this of whoever has no wait there
abbrev pub IsSilent : Node → List Mark → Mark → Type 0
IsSilent node marks (Sent to number (message.Answer g (reply.Done c wrote count part))) = has_wait marks node g ≡ false
IsSilent node marks (Sent to number (message.Answer g (reply.Failed c cause))) = has_wait marks node g ≡ false
IsSilent node marks _ = Unit {0}

abbrev pub AreMarksSilent : Node → List Mark → List Mark → Type 0
AreMarksSilent node earlier [] = Unit {0}
AreMarksSilent node earlier (m ∷ ms) = IsSilent node earlier m × AreMarksSilent node (earlier ++ m ∷ []) ms

-- in each of these steps, behind the steps before
abbrev pub AreWaitersSilent : List Step → List Step → Type 0
AreWaitersSilent before [] = Unit {0}
AreWaitersSilent before (s ∷ ss) = AreMarksSilent s.stamp.node (marks_in before) s.marks × AreWaitersSilent (before ++ s ∷ []) ss
