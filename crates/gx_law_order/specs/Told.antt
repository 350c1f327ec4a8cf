-- What stands before a message that tells of a mark.
use Rattle.std.specs.Prelude.{◌≡◌, true, List, [], ◌∷◌, ◌++◌}
use Rattle.gx_ids.specs.declared.ids.Node.{Node}
use Rattle.gx_msg.specs.declared.message.Message.{Message}
use Rattle.gx_msg.specs.declared.message.Message.TheVariants as message
use Rattle.gx_msg.specs.declared.reply.Reply.TheVariants as reply
use Rattle.gx_store.specs.declared.mark.Mark.{Mark}
use Rattle.gx_store.specs.declared.mark.Mark.TheVariants.{Sent}
use Rattle.gx_store.specs.declared.run.Step.{Step}
use Rattle.gx_store.specs.Marks.{is_aborted, is_committed}
use Rattle.gx_store.specs.Points.{marks_in}
use Rattle.gx_store.specs.Protocol.{local_count, prepared_count}

-- PREPARED and COMMITTED come behind the sender's own mark, ABORT behind the Abort mark, FORGET behind the Commit mark
abbrev pub IsTold : Node → List Mark → Message → Type 0
IsTold node marks (message.Answer g reply.Prepared) = prepared_count marks node g ≡ 1
IsTold node marks (message.Answer g reply.Committed) = local_count marks node g ≡ 1
IsTold node marks (message.Abort g) = is_aborted marks g ≡ true
IsTold node marks (message.Forget g) = is_committed marks g ≡ true
IsTold node marks _ = Unit {0}

abbrev pub AreTold : Node → List Mark → List Mark → Type 0
AreTold node before [] = Unit {0}
AreTold node before (Sent to number told ∷ ms) = IsTold node before told × AreTold node (before ++ Sent to number told ∷ []) ms
AreTold node before (m ∷ ms) = AreTold node (before ++ m ∷ []) ms

-- in each of these steps, behind the steps before
abbrev pub DoStepsTell : List Step → List Step → Type 0
DoStepsTell before [] = Unit {0}
DoStepsTell before (s ∷ ss) = AreTold s.stamp.node (marks_in before) s.marks × DoStepsTell (before ++ s ∷ []) ss
