use denote.Param.Send.{sendable}
use Rattle.gx_node.proofs.Sent.{local_send}
use Rattle.gx_node.proofs.probe.local_is_send.Goals as goal

pub is_send-requires-send-T : goal.is_send-requires-send-T
is_send-requires-send-T c κs = search (sendable, local_send)
