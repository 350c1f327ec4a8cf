-- Orders as messages.
use Rattle.gx_ids.specs.declared.ids.Gxid.{Gxid}
use Rattle.gx_msg.specs.declared.message.Message.{Message}
use Rattle.gx_msg.specs.declared.message.Message.TheVariants as message
use Rattle.gx_dtx.specs.declared.order.Order.{Order}
use Rattle.gx_dtx.specs.declared.order.Order.TheVariants.{Prepare, Commit, CommitPrepared, Abort, Forget}

-- the order for a transaction
abbrev pub message_of : Order → Gxid → Message
message_of Prepare g = message.Prepare g
message_of Commit g = message.Commit g
message_of CommitPrepared g = message.CommitPrepared g
message_of Abort g = message.Abort g
message_of Forget g = message.Forget g
